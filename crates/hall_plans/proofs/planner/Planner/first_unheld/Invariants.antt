use Rattle.std.proofs.Common.{◌-◌, ◌^◌}
use Rattle.hall_plans.specs.Planner.{ForEachScene}
use Rattle.hall_plans.proofs.FirstUnheld.{AreHeldUpTo}
use Rattle.hall_plans.proofs.planner.Planner.first_unheld.Given as goal

abbrev pub invariant-events : goal.invariant-events
invariant-events l = ForEachScene l.self (λ x. AreHeldUpTo x.settings x.past l.after)

abbrev pub decreases-events : goal.decreases-events
decreases-events l = 2 ^ 64 - l.after
