use Rattle.std.proofs.Common.{◌≡◌, drop}
use Rattle.invoke_records.specs.Spelling.{rows_fault}
use Rattle.invoke_records.proofs.snapshot_writing.check_rows.Given as goal

abbrev pub invariant-loop-row : goal.invariant-loop-row
invariant-loop-row l = rows_fault (drop l.row-index l.rows) ≡ rows_fault l.rows
