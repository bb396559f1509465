-- An empty map keeps no events.
use Rattle.hall_core.proofs.Kept.{keeps_nothing}
use Rattle.hall_core.proofs.slots.Slots.new.Goals as goal

pub returns : goal.returns
returns c = λ s. keeps_nothing s _ c.new.ensures.empty
