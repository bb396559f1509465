use Rattle.std.proofs.Common.{◌≡◌, drop}
use Rattle.invoke_records.specs.Spelling.{are_in_order}
use Rattle.invoke_records.proofs.order.are_compared.Given as goal

abbrev pub invariant-loop-i : goal.invariant-loop-i
invariant-loop-i l = are_in_order (drop l.i l.rows) ≡ are_in_order l.rows
