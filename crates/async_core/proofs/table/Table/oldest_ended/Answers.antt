-- What the rows say, the history says.
use Rattle.invoke_records.specs.declared.row.EventRow.{EventRow}
use Rattle.async_core.specs.declared.choice.Order.TheVariants as order
use Rattle.async_core.specs.Choice.{IsChosenAs}
use Rattle.async_core.proofs.Nexts.{oldest_ended-by_history}
use Rattle.async_core.proofs.table.Table.oldest_ended.Goals as goal

pub returns : goal.returns
returns c =
    let chosen : IsChosenAs (order.Ended c.args.side) c.args.self.now.table.rows (λ (r : EventRow). r.id) c.first_ended.result = rw (← c.self.view_is) c.first_ended.ensures in
    record { by_row = chosen; by_history = λ history is. oldest_ended-by_history _ _ history is c.args.side _ chosen }
