use Rattle.hall_plans.specs.laws.Points.{point_stays}
use Rattle.hall_plans.proofs.laws.points.Goals as goal

pub returns : goal.returns
returns c = λ s past call slot alone. point_stays s past call slot alone
