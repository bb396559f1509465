use Rattle.std.proofs.Common.{sym, subst}
use Rattle.disk_guard.specs.Marks.{StandsIn}
use Rattle.disk_guard.proofs.Marked.{first_stands}
use Rattle.disk_guard.proofs.marks.Mark.of.Goals as goal

pub returns-clause-right : goal.returns-clause-right
returns-clause-right c = λ content stand.
    subst (StandsIn content c.args.at) (sym c.copy_from_slice.ensures.after)
    (first_stands content c.args.at c.args.bytes.now c.if-bytes-lt-SECTOR_SIZE.false stand)
