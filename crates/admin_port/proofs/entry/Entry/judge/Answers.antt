use Rattle.admin_port.proofs.Listed.{of_some}
use Rattle.admin_port.proofs.entry.Entry.judge.Goals as goal

pub invariant_of-self : goal.invariant_of-self
invariant_of-self g c = record {
  waits = ∣ of_some _ _ (λ waiting done told taken. (waiting.seen.before.value, waiting.seen.after.value, waiting.slot, done, taken)) c.act.result c.act.ensures ∣₁;
  tells = c.args.self.now.tells;
}
