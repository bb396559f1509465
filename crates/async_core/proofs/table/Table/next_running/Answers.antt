-- What the rows say, the history says.
use Rattle.invoke_records.specs.declared.row.EventRow.{EventRow}
use Rattle.async_core.specs.declared.choice.Order.TheVariants as order
use Rattle.async_core.specs.Choice.{IsChosenAs}
use Rattle.async_core.proofs.Nexts.{next_running-by_history}
use Rattle.async_core.proofs.table.Table.next_running.Goals as goal

pub returns : goal.returns
returns c =
    let chosen : IsChosenAs (order.Running c.args.after) c.args.self.now.table.rows (λ (r : EventRow). (r.number, r.id)) c.first_running.result = rw (← c.self.view_is) c.first_running.ensures in
    record { by_row = chosen; by_history = λ history is. next_running-by_history _ _ history is c.args.after _ chosen }
