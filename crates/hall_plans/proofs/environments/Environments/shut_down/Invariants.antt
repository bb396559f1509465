use Rattle.hall_plans.proofs.Holding.{EndedSoFar}
use Rattle.hall_plans.proofs.environments.Environments.shut_down.Given as goal

abbrev pub invariant-loop-env : goal.invariant-loop-env
invariant-loop-env l = EndedSoFar l.self l.now l.list.items l.answers.items l.env-index
