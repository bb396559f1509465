use Rattle.std.proofs.Common.{take}
use Rattle.std.specs.List.{AllByRecursion}
use Rattle.invoke_records.specs.Spelling.{IsWithinWidth}
use Rattle.invoke_records.proofs.snapshot_writing.rows_are_within.Given as goal

abbrev pub invariant-loop-row : goal.invariant-loop-row
invariant-loop-row l = AllByRecursion IsWithinWidth (take l.row-index l.rows)
