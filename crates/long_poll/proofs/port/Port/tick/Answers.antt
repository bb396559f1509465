use Rattle.std.proofs.Common.{IfErr, subst, sym, ◌∙◌}
use Rattle.receipts.specs.Answers.{IsTickRefusal}
use Rattle.receipts.specs.Locked.{hall_in}
use Rattle.receipts.specs.UnderLock.{IsNotMoved}
use Rattle.long_poll.proofs.port.Port.tick.Goals as goal

pub returns-in-Err-clause-reason : goal.returns-in-Err-clause-reason
returns-in-Err-clause-reason g c =
    let told = c.deref_mut.result.now.told in
    let reason = subst (λ r. IfErr r (IsNotMoved (hall_in c.tick.result.before.value.hall) told c.args.now))
    (sym c.split-answer.ensures.answer ∙ c.in-Err.is) c.tick.ensures.reason in
    rw (c.with.ensures.answer, c.with.ensures.before, c.split-answer.ensures.before) (told, reason)

pub returns-clause-done : goal.returns-clause-done
returns-clause-done g c =
    let done = rw (sym c.split-answer.ensures.answer ∙ c.in-Ok.is) at c.tick.ensures.done in
    rw (c.with-2.ensures.answer, c.with-2.ensures.before, c.with-2.ensures.after, c.split-answer.ensures.before, c.split-answer.ensures.after)
    (λ past stands. (done past stands).0)

pub returns-in-Err-clause-refused : goal.returns-in-Err-clause-refused
returns-in-Err-clause-refused g c =
    let told = c.deref_mut.result.now.told in
    let refused = subst (λ r. IfErr r (IsTickRefusal told)) (sym c.split-answer.ensures.answer ∙ c.in-Err.is) c.tick.ensures.refused in
    rw c.with.ensures.answer (told, refused)
