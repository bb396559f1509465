use Rattle.hall_plans.specs.Past.{calls_of}
use Rattle.hall_plans.proofs.planner.Planner.running.Goals as goal

pub returns : goal.returns
unfolding calls_of
returns c past meets = c.running.ensures past.wanted past.made meets.hold
