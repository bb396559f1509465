use Rattle.std.proofs.Common.{map}
use Rattle.receipts.specs.Marks.{AreHistories}
use Rattle.receipts.proofs.unlocked.Unlocked.drill.Given as goal

abbrev pub invariant-loop-step : goal.invariant-loop-step
invariant-loop-step g l = AreHistories (λ d. d.number) (λ d. map g.T.Trace.mark d.own.items) (map g.T.Trace.mark l.self.locked.marks.all.items) l.desks.items
