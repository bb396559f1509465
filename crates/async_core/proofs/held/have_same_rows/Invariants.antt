use Rattle.std.proofs.Common.{◌≡◌}
use Rattle.std.specs.Map.{values_of}
use Rattle.std.specs.Cmp.Lexicographic.{pointwise}
use Rattle.async_core.specs.Equality.{same_row}
use Rattle.async_core.proofs.held.have_same_rows.Given as goal

abbrev pub invariant-loop-row : goal.invariant-loop-row
invariant-loop-row l = pointwise same_row (values_of l.a.entries) (values_of l.b.entries) ≡ pointwise same_row l.row-iterator l.others
