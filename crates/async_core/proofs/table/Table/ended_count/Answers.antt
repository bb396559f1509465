-- What the rows say, the history says.
use Rattle.std.proofs.Common.{◌≡◌, ◌∙◌}
use Rattle.async_core.specs.Tallies.{ended_at}
use Rattle.async_core.proofs.Nexts.{ended_count-by_history}
use Rattle.async_core.proofs.table.Table.ended_count.Goals as goal

pub returns : goal.returns
returns c =
    let counted : c.ended.result ≡ ended_at c.args.side c.args.self.now.table.rows = rw (← c.self.view_is) c.ended.ensures in
    record { by_row = counted; by_history = λ history is. counted ∙ ended_count-by_history _ _ history is c.args.side }
