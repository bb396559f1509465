use Rattle.env_phase.specs.Environment.{runs}
use Rattle.hall_plans.proofs.Holding.{NotAmong}
use Rattle.hall_plans.proofs.environments.Environments.holder.Given as goal

-- the first is not among those that were asked
abbrev pub invariant-loop-env : goal.invariant-loop-env
invariant-loop-env l = NotAmong l.self (λ wanted calls. runs calls l.fn.id) l.env-index
