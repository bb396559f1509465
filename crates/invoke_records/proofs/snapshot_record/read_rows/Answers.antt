use Rattle.std.proofs.lemmas.Result.{err_from_is_err_and}
use Rattle.invoke_records.specs.Reading.{rows_at}
use Rattle.invoke_records.specs.laws.Snapshots.{goes_on, ends, is_done}
use Rattle.invoke_records.proofs.Steps.{fails_by}
use Rattle.invoke_records.proofs.snapshot_record.read_rows.Goals as goal

pub returns-in_err-row : goal.returns-in_err-row
returns-in_err-row c =
    let p = err_from_is_err_and c.from_residual.result c.from_residual.ensures.1 in
    rw (p.1, p.2) (ends c.args.version c.in_err-row.field-0.0 c.loop.rows.items c.args.count c.loop.counter c.loop.rest.now (rows_at c.args.version c.args.count c.args.bytes.now) c.loop-test.true (fails_by c.in_err-row.field-0.0 _ c.in_err-row.ensures) c.loop.invariant)

pub loop-preserved : goal.loop-preserved
loop-preserved c =
    rw c.in_ok-push.ensures.items (goes_on c.args.version c.loop.rows.items c.args.count c.loop.counter c.loop.rest.now c.in_ok-row.row c.in_ok-row.after.now (rows_at c.args.version c.args.count c.args.bytes.now) c.loop-test.true c.in_ok-row.ensures c.loop.invariant)

pub returns : goal.returns
returns c = is_done c.args.version c.loop.rows.items c.args.count c.loop.counter c.loop.rest.now (rows_at c.args.version c.args.count c.args.bytes.now) c.loop-test.false c.loop.invariant
