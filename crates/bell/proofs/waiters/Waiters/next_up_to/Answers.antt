use Rattle.std.proofs.Common.{arith}
use Rattle.std.specs.BTreeMap as tree
use Rattle.std.specs.Prelude.{slice_index_or}
use Rattle.bell.proofs.Above.{above_least}
use Rattle.bell.proofs.waiters.Waiters.next_up_to.Goals as goal

pub returns-then-number-least-clause-none : goal.returns-then-number-least-clause-none
returns-then-number-least-clause-none c = λ k d inside.
    above_least c.args.number c.in_ok-least.least.now (slice_index_or (tree.keys c.args.self.now.numbered) k d) (omega (arith, c.if-number-least.true))
    (c.in_ok-least.ensures.all_from k d inside)
