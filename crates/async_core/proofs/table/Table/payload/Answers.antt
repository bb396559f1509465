-- What the row says, the history says.
use Rattle.std.proofs.Common.{◌≡◌, ◌∙◌, rules}
use Rattle.std.specs.Option.{option_copied}
use Rattle.async_core.specs.Readers.{payload_at}
use Rattle.async_core.specs.Rules.{row_at}
use Rattle.async_core.specs.laws.Tables.{payload-by_history}
use Rattle.async_core.proofs.table.Table.payload.Goals as goal

pub returns-clause-by_history : goal.returns-clause-by_history
returns-clause-by_history c =
    let row : option_copied c.payload_in.result ≡ payload_at (row_at c.args.self.now.table c.args.id.now) = search rules in
    λ history legal is. row ∙ payload-by_history _ _ history _ legal is
