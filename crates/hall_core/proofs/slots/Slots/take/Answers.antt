-- What is released is what the events say, and the slot is then closed.
use Rattle.std.proofs.Common.{◌∙◌}
use Rattle.hall_core.proofs.Kept.{gives_released, taken_is_closed, some_after}
use Rattle.hall_core.proofs.slots.Slots.take.Goals as goal

pub returns-clause-gives : goal.returns-clause-gives
returns-clause-gives c =
    λ s events keeps. c.release.ensures.gives ∙ gives_released s c.args.is_broken c.args.receipt c.args.self.now events c.args.slot keeps

pub returns-clause-some : goal.returns-clause-some
returns-clause-some c =
    λ s events keeps. some_after c.release.result _ _ c.release.ensures.some (λ puts. taken_is_closed s c.args.self.now events c.args.slot c.release.new.self keeps puts)
