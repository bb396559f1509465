use Rattle.std.proofs.Common.{◌≡◌, Bool, true, false, rules, tests}
use Rattle.std.specs.Prelude.{◌||◌}
use Rattle.std.proofs.lemmas.Iterator.{YieldsList-from_slice}
use Rattle.std.proofs.lemmas.Iterator.Search.{any_from_yields_List}
use Rattle.admin_replies.specs.Requests.{is_named}
use Rattle.admin_replies.proofs.query.is_understood.Goals as goal

second : (first answer any : Bool) → false ≡ first → answer ≡ any → answer ≡ (first || any)
second false answer any e h = h
second true answer any e h = cc

pub returns-else-is_empty : goal.returns-else-is_empty
returns-else-is_empty c =
    second _ _ _ c.if-is_empty.ensures
    (any_from_yields_List (λ name. is_named name c.args.part.now) _ _ _ c.any.ensures.ran (YieldsList-from_slice c.args.names.now cc) (λ x b q k. search (rules, tests)))
