-- What the table says, the history says.
use Rattle.std.proofs.Common.{◌∙◌, ap}
use Rattle.async_core.specs.Policies.{pair_of}
use Rattle.async_core.specs.laws.Tables.{in_force-by_history}
use Rattle.async_core.proofs.table.Table.in_force.Goals as goal

pub returns-clause-by_history : goal.returns-clause-by_history
returns-clause-by_history c = λ history legal is. ap pair_of (c.policy-policy.ensures ∙ in_force-by_history _ _ history is)
