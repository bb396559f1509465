use Rattle.std.proofs.Common.{[], ◌∷◌, ◌++◌}
use Rattle.destination_json.specs.Json.{in_quotes, member}
use Rattle.destination_json.specs.Record.{latest}
use Rattle.api_core.specs.Replies.{function_members, account_members}
use Rattle.api_core.proofs.Objects.{ended}
use Rattle.api_core.proofs.texts.function_text.Goals as goal

pub returns : goal.returns
returns c =
    let s = c.args.settings.now in
    let name = member "functionName" (in_quotes s.name) in
    let others = member "functionVersion" (in_quotes latest) ∷ member "handler" (in_quotes s.handler) ∷ [] in
    ended (function_members s ++ account_members c.args.dialect s c.args.account) c.with_account-object.result c.end.result
    (rw c.account_told-account.ensures at c.with_account-object.ensures name others c.function_object.ensures)
    c.end.ensures
