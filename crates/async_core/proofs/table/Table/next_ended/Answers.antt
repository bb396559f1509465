-- What the rows say, the history says.
use Rattle.std.specs.Option.{option_copied}
use Rattle.async_core.specs.declared.choice.Order.TheVariants as order
use Rattle.async_core.specs.Choice.{IsChosen}
use Rattle.async_core.proofs.Nexts.{next_ended-by_history}
use Rattle.async_core.proofs.table.Table.next_ended.Goals as goal

pub returns : goal.returns
returns c =
    let chosen : IsChosen (order.EndedBehind c.args.side c.args.behind) c.args.self.now.table.rows (option_copied c.ended_behind.result) = rw (← c.self.view_is) c.ended_behind.ensures in
    record { by_row = chosen; by_history = λ history is. next_ended-by_history _ _ history is c.args.side c.args.behind _ chosen }
