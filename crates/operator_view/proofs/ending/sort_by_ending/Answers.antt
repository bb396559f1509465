use Rattle.std.proofs.Common.{rules}
use Rattle.std.proofs.lemmas.List.Sorted.{IsNonDecreasingBy-from_sort_by_key}
use Rattle.operator_view.specs.Page.{number_at}
use Rattle.operator_view.proofs.ending.sort_by_ending.Goals as goal

pub returns-clause-ascending : goal.returns-clause-ascending
returns-clause-ascending c = IsNonDecreasingBy-from_sort_by_key (number_at c.args.rows.now) _ c.sort_unstable_by_key.ensures.sorted (λ a r q k. search rules)
