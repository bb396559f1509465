use Rattle.std.proofs.Common.{sym, ◌∙◌, append_assoc}
use Rattle.checkpoint.proofs.Puts.{puts_more, puts_failed, puts_as}
use Rattle.checkpoint.proofs.pieces.Pieces.put_row.Goals as goal

pub returns-in_err-put-2-clause-puts : goal.returns-in_err-put-2-clause-puts
returns-in_err-put-2-clause-puts g c = puts_failed c.from_residual-in_err-put-2.result c.from_residual-in_err-put-2.ensures.0 (puts_more c.put-2.result c.in_ok-put.ensures.puts c.put-2.ensures.puts)

pub returns-clause-puts : goal.returns-clause-puts
returns-clause-puts g c =
    let puts = puts_more c.put-3.result (puts_more _ c.in_ok-put.ensures.puts c.in_ok-put-2.ensures.puts) c.put-3.ensures.puts in
    puts_as (append_assoc c.head.result c.as_slice.result.now c.bytes.result.now ∙ rw (c.as_slice.ensures, c.bytes.ensures) (sym c.head.ensures)) puts
