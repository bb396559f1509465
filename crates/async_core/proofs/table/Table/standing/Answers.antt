-- What the row says, the history says.
use Rattle.std.proofs.Common.{◌≡◌, ◌∙◌, ap, rules}
use Rattle.async_core.specs.Rules.{standing_at}
use Rattle.async_core.specs.laws.Tables.{standing_at-table_of}
use Rattle.async_core.proofs.table.Table.standing.Goals as goal

pub returns-clause-by_history : goal.returns-clause-by_history
unfolding standing_at
returns-clause-by_history c =
    let row : c.standing_in.result ≡ standing_at c.args.self.now.table c.args.id.now = search rules in
    λ history legal is. row ∙ ap (λ t. standing_at t c.args.id.now) is ∙ standing_at-table_of _ history legal c.args.id.now
