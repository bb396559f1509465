use Rattle.env_phase.specs.Environment.{is_ready}
use Rattle.hall_plans.proofs.Holding.{NotAmong}
use Rattle.hall_plans.proofs.environments.Environments.ready.Given as goal

-- the first is not among those that were asked
abbrev pub invariant-loop-env : goal.invariant-loop-env
invariant-loop-env l = NotAmong l.self is_ready l.env-index
