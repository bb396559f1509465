use Rattle.std.proofs.Common.{◌+◌, length, drop, ap, length-append, arith}
use Rattle.std.specs.List.{flat_map}
use Rattle.invoke_records.specs.Spelling.{row_text}
use Rattle.checkpoint.proofs.Puts.{puts_more, puts_as, cause_more, room_left, rows_from, rows_to, none_from}
use Rattle.checkpoint.proofs.pieces.Pieces.put_rows.Goals as goal

pub loop-row-preserved : goal.loop-row-preserved
loop-row-preserved g c =
    let rows = c.args.rows.now in
    let i = c.loop-row.row-index in
    let row = c.row-item.result in
    let size = length-append (row_text row) (flat_map row_text (drop (i + 1) rows)) in
    let from = ap length (rows_from rows i row c.loop-row-test.true c.row-item.is) in
    record {
      spelled = (none_from rows i row c.loop-row-test.true c.row-item.is c.loop-row.invariant.spelled).1;
      room = room_left _ _ c.loop-row.invariant.room c.in_ok-put_row.ensures.puts (omega (arith, from, size));
      puts = puts_as (rows_to rows i row c.loop-row-test.true c.row-item.is) (puts_more _ c.loop-row.invariant.puts c.in_ok-put_row.ensures.puts);
      cause = cause_more _ c.loop-row.invariant.cause c.in_ok-put_row.ensures.cause;
    }
