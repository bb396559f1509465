-- The point by what is kept is the point by the events.
use Rattle.std.proofs.Common.{◌≡◌, ◌∙◌, None, rules}
use Rattle.hall_core.specs.OpenSlots.{entry_at}
use Rattle.hall_core.specs.SlotSteps.{point_at}
use Rattle.hall_core.proofs.Points.{point_is}
use Rattle.hall_core.proofs.slots.Slots.point.Goals as goal

pub returns-in-Some-clause-by_events : goal.returns-in-Some-clause-by_events
returns-in-Some-clause-by_events c =
    let is : c.point.result ≡ point_at (entry_at c.args.self.now c.args.slot) = search rules in
    λ s events keeps. is ∙ point_is s c.args.self.now events c.args.slot keeps

pub returns-in-None-clause-by_events : goal.returns-in-None-clause-by_events
returns-in-None-clause-by_events c =
    let is : None ≡ point_at (entry_at c.args.self.now c.args.slot) = search rules in
    λ s events keeps. is ∙ point_is s c.args.self.now events c.args.slot keeps
