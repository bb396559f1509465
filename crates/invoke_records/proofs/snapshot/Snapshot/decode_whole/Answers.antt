use Rattle.std.proofs.lemmas.Result.{err_from_is_err_and}
use Rattle.invoke_records.specs.Reading.{snapshot_at}
use Rattle.invoke_records.specs.laws.Snapshots.{snapshot_number}
use Rattle.invoke_records.proofs.Steps.{fails_then}
use Rattle.invoke_records.proofs.snapshot.Snapshot.decode_whole.Goals as goal

pub returns-in_err-snapshot-clause-exact : goal.returns-in_err-snapshot-clause-exact
returns-in_err-snapshot-clause-exact c =
    let p = err_from_is_err_and c.from_residual.result c.from_residual.ensures.1 in
    rw (p.1, p.2) (fails_then c.in_err-snapshot.field-0.0 (snapshot_at c.args.version c.args.bytes.now) _ c.in_err-snapshot.ensures)

pub returns-clause-number : goal.returns-clause-number
returns-clause-number c = snapshot_number c.args.version c.args.bytes.now (c.in_ok-snapshot.snapshot, c.in_ok-snapshot.rest.now) c.in_ok-snapshot.ensures
