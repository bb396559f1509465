use Rattle.std.proofs.Common.{◌≡◌, ◌∙◌, Some, sym, ap}
use Rattle.operator_view.specs.Census.{least}
use Rattle.operator_view.proofs.Tallied.{earlier, least-append}
use Rattle.operator_view.proofs.counting.earlier.Goals as goal

pub returns-in-Some-Some : goal.returns-in-Some-Some
returns-in-Some-Some c = λ all more is other_is.
    let first : Some c.in-Some-Some.one ≡ least all = sym c.in-Some-Some.is-0 ∙ is in
    let second : Some c.in-Some-Some.other ≡ least more = sym c.in-Some-Some.is-1 ∙ other_is in
    ap Some c.min.ensures ∙ ap (λ o. earlier o (Some c.in-Some-Some.other)) first ∙ ap (λ o. earlier (least all) o) second ∙ least-append all more
