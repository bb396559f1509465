use Rattle.std.proofs.Common.{rules, ◌≡◌, Ok, Some, IfOk, subst}
use Rattle.hall_plans.specs.Past.{tick}
use Rattle.receipts.specs.Locked.{hall_in}
use Rattle.receipts.specs.UnderLock.{AnswersItsNumber}
use Rattle.http_front.proofs.ticking.make_move.Goals as goal

pub returns-in-Ok-Some-clause-finds : goal.returns-in-Ok-Some-clause-finds
returns-in-Ok-Some-clause-finds g c =
    let made : c.tick.result.answer ≡ Ok (Some c.in-Ok-Some.number) = search rules in
    let answer = subst (λ r. IfOk r (AnswersItsNumber (hall_in c.tick.result.before.value.hall) (tick c.millis.result))) made c.tick.ensures.answer in
    rw (c.with.ensures.answer, c.with.ensures.before, c.split-answer.ensures.before, ← c.millis.ensures.is) (c.in-Ok-Some.number, answer)
