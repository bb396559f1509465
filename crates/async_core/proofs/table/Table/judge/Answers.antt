-- What the table refuses, the history refuses.
use Rattle.std.proofs.Common.{◌≡◌, ◌∙◌, ap, rules}
use Rattle.std.specs.Result.{result_err}
use Rattle.async_core.specs.Rules.{refusal_at}
use Rattle.async_core.specs.laws.Tables.{refusal-of_table}
use Rattle.async_core.proofs.table.Table.judge.Goals as goal

pub returns-clause-by_history : goal.returns-clause-by_history
unfolding refusal_at
returns-clause-by_history c =
    let row : result_err c.refuse.result ≡ refusal_at c.args.self.now.settings c.args.self.now.table c.args.command.now = search rules in
    λ history good legal is. row ∙ ap (λ t. refusal_at c.args.self.now.settings t c.args.command.now) is ∙ refusal-of_table _ history c.args.command.now good legal
