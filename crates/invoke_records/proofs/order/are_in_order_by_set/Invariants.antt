use Rattle.std.proofs.Common.{◌≡◌, drop}
use Rattle.invoke_records.specs.Spelling.{are_in_order}
use Rattle.invoke_records.proofs.Orders.{go_on}
use Rattle.invoke_records.proofs.order.are_in_order_by_set.Given as goal

abbrev pub invariant-loop-row : goal.invariant-loop-row
invariant-loop-row l = go_on l.least l.seen (drop l.row-index l.rows) ≡ are_in_order l.rows
