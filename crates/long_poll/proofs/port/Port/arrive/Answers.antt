use Rattle.std.proofs.Common.{rules, ◌≡◌, IfErr, subst, sym, ◌∙◌}
use Rattle.receipts.specs.Answers.{IsArrivalRefusal}
use Rattle.receipts.specs.Locked.{hall_in}
use Rattle.receipts.specs.UnderLock.{IsNotMade}
use Rattle.long_poll.proofs.port.Port.arrive.Goals as goal

pub returns-in-Err-clause-refused : goal.returns-in-Err-clause-refused
returns-in-Err-clause-refused g c =
    let told = c.deref_mut.result.now.told in
    let refused = subst (λ r. IfErr r (IsArrivalRefusal told)) (sym c.split-answer.ensures.answer ∙ c.in-Err.is) c.arrive.ensures.refused in
    rw c.with.ensures.answer (told, refused)

pub returns-in-Err-clause-reason : goal.returns-in-Err-clause-reason
returns-in-Err-clause-reason g c =
    let desk = c.deref_mut.result.now in
    let before = c.arrive.result.before.value in
    let reason = subst (λ r. IfErr r (IsNotMade (hall_in before.hall) before.slots (record { told = desk.told; desk = desk.number; call = c.args.call; now = c.args.now; words = c.args.words })))
    (sym c.split-answer.ensures.answer ∙ c.in-Err.is) c.arrive.ensures.reason in
    rw (c.with.ensures.answer, c.with.ensures.before, c.split-answer.ensures.before) (desk.told, desk.number, reason)

pub returns-in-Err-clause-slot : goal.returns-in-Err-clause-slot
returns-in-Err-clause-slot g c = tt

pub returns-in-Err-clause-done : goal.returns-in-Err-clause-done
returns-in-Err-clause-done g c = tt

pub returns-in-Err-clause-issued : goal.returns-in-Err-clause-issued
returns-in-Err-clause-issued g c = tt

pub returns-clause-refused : goal.returns-clause-refused
returns-clause-refused g c = tt

pub returns-clause-reason : goal.returns-clause-reason
returns-clause-reason g c = tt

pub returns-clause-slot : goal.returns-clause-slot
returns-clause-slot g c =
    let desk = c.deref_mut.result.now in
    let slot = rw (sym c.split-answer.ensures.answer ∙ c.in-Ok.is) at c.arrive.ensures.slot in
    (desk.number, desk.few, slot)

pub returns-clause-done : goal.returns-clause-done
returns-clause-done g c =
    let done = rw (sym c.split-answer.ensures.answer ∙ c.in-Ok.is) at c.arrive.ensures.done in
    rw (c.split-answer.ensures.before, c.split-answer.ensures.after) (λ past stands. (done past stands).0)

pub returns-clause-issued : goal.returns-clause-issued
returns-clause-issued g c =
    let told : c.issued-issued.result ≡ c.arrive.new.desk.issued = search rules in
    let issued = rw (sym c.split-answer.ensures.answer ∙ c.in-Ok.is) at c.arrive.ensures.issued in
    rw c.split-answer.ensures.before (λ past stands. told ∙ issued past stands)
