use Rattle.std.proofs.Common.{◌∙◌, refl}
use Rattle.hall_plans.specs.Past.{calls_of}
use Rattle.hall_plans.proofs.planner.Planner.ready.Goals as goal

pub returns-clause-ready : goal.returns-clause-ready
unfolding calls_of
returns-clause-ready c past meets = c.ready.ensures.first past.wanted past.made meets.hold ∙ rw meets.count refl
