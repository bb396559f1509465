use Rattle.std.proofs.Common.{sym, subst}
use Rattle.disk_guard.specs.Marks.{StandFrom}
use Rattle.disk_guard.proofs.Marked.{rest_stands}
use Rattle.std.proofs.lemmas.List.{take_rest}
use Rattle.disk_guard.proofs.marks.Mark.within.Goals as goal

pub returns-clause-right : goal.returns-clause-right
returns-clause-right c = λ content stand.
    let next = (c.in_ok-checked_add.ensures).1 in
    c.of.ensures.right content
    (subst (StandFrom content c.in_ok-checked_add.field-0) (sym (take_rest c.args.bytes.now 512))
    (rest_stands content c.args.at c.in_ok-checked_add.field-0 c.args.bytes.now c.if-bytes-lt-SECTOR_SIZE.false next stand))
