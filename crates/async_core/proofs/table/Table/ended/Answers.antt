-- What the row says, the history says.
use Rattle.std.proofs.Common.{◌≡◌, ◌∙◌, rules}
use Rattle.std.specs.Prelude.{option_map}
use Rattle.async_core.specs.Rules.{row_at}
use Rattle.async_core.specs.Readers.{ending_at, told}
use Rattle.async_core.specs.laws.Tables.{ending-by_history}
use Rattle.async_core.proofs.table.Table.ended.Goals as goal

pub returns-clause-by_history : goal.returns-clause-by_history
returns-clause-by_history c =
    let row : option_map told c.ended_in.result ≡ ending_at (row_at c.args.self.now.table c.args.id.now) = search rules in
    λ history legal is. row ∙ ending-by_history _ _ history _ legal is
