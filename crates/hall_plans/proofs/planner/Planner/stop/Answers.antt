use Rattle.std.proofs.Common.{refl}
use Rattle.hall_plans.proofs.planner.Planner.stop.Goals as goal

pub returns-clause-effect : goal.returns-clause-effect
returns-clause-effect c past meets = rw (c.len.ensures, meets.count) refl
