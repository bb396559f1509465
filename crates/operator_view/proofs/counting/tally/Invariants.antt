use Rattle.std.proofs.Common.{◌≡◌, ◌<◌, ◌^◌, ◌++◌, List, length}
use Rattle.invoke_records.specs.declared.row.EventRow.{EventRow}
use Rattle.operator_view.specs.Tally.{IsTally}
use Rattle.operator_view.proofs.counting.tally.Given as goal

abbrev pub invariant-loop-row : goal.invariant-loop-row
invariant-loop-row l = (done : List EventRow) × (done ++ l.row-iterator ≡ l.table.table.rows) × (length l.table.table.rows < 2 ^ 63) × IsTally done l.at l.tally × (l.tally.last_moment ≡ l.table.table.last_moment)
