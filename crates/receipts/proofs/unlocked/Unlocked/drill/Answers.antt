use Rattle.std.proofs.Common.{map, refl}
use Rattle.std.proofs.lemmas.Option.{slice_get_read}
use Rattle.receipts.proofs.Histories.{histories_after}
use Rattle.receipts.proofs.unlocked.Unlocked.drill.Goals as goal

pub loop-step-preserved-in-Some-get_mut : goal.loop-step-preserved-in-Some-get_mut
loop-step-preserved-in-Some-get_mut g c =
    let old = c.in-Some-get_mut.desk.now in
    let item = c.in-Some-get_mut.ensures.item in
    histories_after (λ d. d.number) (λ d. map g.T.Trace.mark d.own.items) _ _ _ _ old c.ask.new.desk c.loop-step.invariant
    (slice_get_read _ _ _ old refl item.3.0 item.1) c.ask.ensures.number c.ask.ensures.histories
