use Rattle.hall_plans.proofs.Showing.{ShownSoFar}
use Rattle.hall_plans.proofs.environments.Environments.statuses.Given as goal

abbrev pub invariant-loop-env : goal.invariant-loop-env
invariant-loop-env l = ShownSoFar l.self l.statuses.items l.env-index
