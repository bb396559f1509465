use Rattle.std.proofs.Common.{arith}
use Rattle.disk_guard.proofs.Marked.{stands_before, stands_behind}
use Rattle.disk_guard.proofs.marks.Mark.outside.Goals as goal

pub returns-then-self-at-clause-right : goal.returns-then-self-at-clause-right
returns-then-self-at-clause-right c = λ old new was differ.
    stands_before old new c.args.self.sector c.args.at c.args.count c.args.self.bytes c.if-self-at.true was differ

pub returns-then-count-self-clause-right : goal.returns-then-count-self-clause-right
returns-then-count-self-clause-right c = λ old new was differ.
    stands_behind old new c.args.self.sector c.args.at c.args.count c.args.self.bytes (omega (arith, c.if-self-at.false)) c.if-count-self.true was differ
