use Rattle.std.proofs.Common.{sym}
use Rattle.checkpoint.proofs.Puts.{puts_more, puts_as}
use Rattle.checkpoint.proofs.pieces.Pieces.put_snapshot.Goals as goal

pub returns-clause-puts : goal.returns-clause-puts
returns-clause-puts g c = puts_as (rw c.as_slice.ensures (sym c.head.ensures)) (puts_more c.put_rows.result c.in_ok-put.ensures.puts c.put_rows.ensures.puts)
