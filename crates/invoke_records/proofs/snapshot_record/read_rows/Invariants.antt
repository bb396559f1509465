use Rattle.std.proofs.Common.{◌≡◌, ◌-◌}
use Rattle.invoke_records.specs.Reading.{rows_at}
use Rattle.invoke_records.specs.laws.Snapshots.{with_front}
use Rattle.invoke_records.proofs.snapshot_record.read_rows.Given as goal

abbrev pub invariant-loop : goal.invariant-loop
invariant-loop l = with_front l.rows.items (rows_at l.version (l.count - l.counter) l.rest) ≡ rows_at l.version l.count l.bytes
