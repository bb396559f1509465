use Rattle.std.proofs.Common.{◌<◌, arith, append_assoc}
use Rattle.std.proofs.lemmas.List.{append-nil}
use Rattle.admin_replies.proofs.Numbers.{none_last, more_last}
use Rattle.admin_replies.proofs.lines.+put_last_digits.Goals as goal

pub returns-then-count-eq0 : goal.returns-then-count-eq0
returns-then-count-eq0 t c = rw (← none_last c.args.count c.args.number c.if-count-eq0.true, append-nil)

pub returns : goal.returns
returns t c =
    let more : 0 < c.args.count = omega arith in
    rw (more_last c.args.count c.args.number more, ← append_assoc) (rw c.in_ok-put_last_digits.ensures at c.put_number.ensures)
