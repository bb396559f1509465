use Rattle.std.proofs.Common.{◌≡◌, ◌∙◌, Bool, true, false, cond, Option, Some, None, ℕ, sym, ap}
use Rattle.operator_view.specs.Standings.{waits}
use Rattle.operator_view.proofs.Tallied.{first_waiting, first_waiting-push}
use Rattle.operator_view.proofs.counting.first_waiting.Goals as goal

pub returns-in-Some : goal.returns-in-Some
returns-in-Some c = λ rows is. ap (λ (o : Option ℕ). first_waiting o c.args.row.now) (sym c.in-Some.is ∙ is) ∙ first_waiting-push rows c.args.row.now

pub returns-in-None : goal.returns-in-None
returns-in-None c = λ rows is. let r = c.args.row.now in
    let e : waits r.standing ≡ true = sym c.waits.ensures ∙ c.if-waits.true in
    sym (ap (λ (b : Bool). cond b (Some r.accepted) None) e)
    ∙ ap (λ (o : Option ℕ). first_waiting o r) (sym c.in-None.is ∙ is) ∙ first_waiting-push rows r

pub returns-in-None-2 : goal.returns-in-None-2
returns-in-None-2 c = λ rows is. let r = c.args.row.now in
    let e : waits r.standing ≡ false = sym c.waits.ensures ∙ c.if-waits.false in
    sym (ap (λ (b : Bool). cond b (Some r.accepted) None) e)
    ∙ ap (λ (o : Option ℕ). first_waiting o r) (sym c.in-None.is ∙ is) ∙ first_waiting-push rows r
