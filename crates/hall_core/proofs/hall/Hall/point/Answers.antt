use Rattle.std.proofs.Common.{◌∙◌}
use Rattle.hall_core.proofs.Points.{point_of_is}
use Rattle.hall_core.proofs.hall.Hall.point.Goals as goal

pub returns-clause-by_past : goal.returns-clause-by_past
returns-clause-by_past g c = λ past stands. c.point.ensures.by_events _ past.slots stands.slots ∙ point_of_is past c.args.slot
