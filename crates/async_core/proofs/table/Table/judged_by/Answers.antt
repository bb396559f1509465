-- What the row says, the history says.
use Rattle.std.proofs.Common.{◌≡◌, ◌∙◌, rules}
use Rattle.async_core.specs.Rules.{row_at}
use Rattle.async_core.specs.Readers.{judge_at}
use Rattle.async_core.specs.laws.Tables.{judge-by_history}
use Rattle.async_core.proofs.table.Table.judged_by.Goals as goal

pub returns-clause-by_history : goal.returns-clause-by_history
returns-clause-by_history c =
    let row : c.judge_in.result ≡ judge_at (row_at c.args.self.now.table c.args.id.now) = search rules in
    λ history legal is. row ∙ judge-by_history _ _ history _ legal is
