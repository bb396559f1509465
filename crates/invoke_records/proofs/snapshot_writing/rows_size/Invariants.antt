use Rattle.std.proofs.Common.{◌≡◌, ◌+◌, ◌*◌, ◌≤◌, None, drop, length}
use Rattle.std.specs.List.{flat_map}
use Rattle.invoke_records.specs.Spelling.{row_text, rows_fault}
use Rattle.invoke_records.proofs.snapshot_writing.rows_size.Given as goal

abbrev pub invariant-loop-row : goal.invariant-loop-row
invariant-loop-row l =
    (l.size + length (flat_map row_text (drop l.row-index l.rows)) ≡ length (flat_map row_text l.rows)) × (l.size ≤ 1310798 * l.row-index) × (rows_fault (drop l.row-index l.rows) ≡ None)
