-- What the row says, the history says.
use Rattle.std.proofs.Common.{◌≡◌, ◌∙◌, rules}
use Rattle.async_core.specs.Readers.{accepted_at}
use Rattle.async_core.specs.Rules.{row_at}
use Rattle.async_core.specs.laws.Tables.{accepted-by_history}
use Rattle.async_core.proofs.table.Table.accepted.Goals as goal

pub returns-clause-by_history : goal.returns-clause-by_history
returns-clause-by_history c =
    let row : c.accepted_in.result ≡ accepted_at (row_at c.args.self.now.table c.args.id.now) = search rules in
    λ history legal is. row ∙ accepted-by_history _ _ history _ legal is
