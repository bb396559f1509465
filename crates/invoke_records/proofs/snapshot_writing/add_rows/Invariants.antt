use Rattle.std.proofs.Common.{◌≡◌, None, drop, take}
use Rattle.std.specs.List.{flat_map}
use Rattle.invoke_records.specs.Spelling.{row_text, rows_fault}
use Rattle.invoke_records.specs.Steps.{Adds}
use Rattle.invoke_records.proofs.snapshot_writing.add_rows.Given as goal

abbrev pub invariant-loop-row : goal.invariant-loop-row
invariant-loop-row l = Adds (flat_map row_text (take l.row-index l.rows)) l.fn.out l.out × (rows_fault (drop l.row-index l.rows) ≡ None)
