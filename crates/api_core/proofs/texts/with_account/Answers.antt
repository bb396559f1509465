use Rattle.std.proofs.Common.{ℕ, ◌≤◌, List, [], ◌∷◌, ◌++◌, length, arith}
use Rattle.destination_json.specs.Json.{in_quotes, member}
use Rattle.api_core.specs.declared.object.Object.{Object}
use Rattle.api_core.specs.Replies.{account_member}
use Rattle.api_core.specs.Steps.{Begun, Adds}
use Rattle.api_core.proofs.Objects.{more}
use Rattle.api_core.proofs.texts.with_account.Goals as goal

added : (account : List ℕ) (old new : Object) → 1 ≤ length account
    → Adds (44 ∷ member "accountId" (in_quotes account)) old new
    → (first : List ℕ) (members : List (List ℕ)) → Begun (first ∷ members) old
    → Begun (first ∷ (members ++ account_member account)) new
added [] old new some adds first members begun = absurd (omega (arith, some))
added (b ∷ account) old new some adds first members begun =
    more first members (member "accountId" (in_quotes (b ∷ account))) old new begun adds

pub returns-in-len1-up : goal.returns-in-len1-up
returns-in-len1-up c first members begun =
    added c.args.account.now c.args.object c.add_text.new.self c.in-len1-up.len_at_least c.add_text.ensures first members begun
