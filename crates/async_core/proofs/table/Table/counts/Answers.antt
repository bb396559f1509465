-- What the row says, the history says.
use Rattle.std.proofs.Common.{◌≡◌, ◌∙◌, rules}
use Rattle.async_core.specs.Rules.{row_at}
use Rattle.async_core.specs.Readers.{counts_at}
use Rattle.async_core.specs.laws.Tables.{counts-by_history}
use Rattle.async_core.proofs.table.Table.counts.Goals as goal

pub returns-clause-by_history : goal.returns-clause-by_history
returns-clause-by_history c =
    let row : c.counts_in_rows.result ≡ counts_at (row_at c.args.self.now.table c.args.id.now) = search rules in
    λ history legal is. row ∙ counts-by_history _ _ history _ legal is
