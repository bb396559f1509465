-- Closing the slot takes back that it was opened.
use Rattle.hall_core.proofs.Kept.{keeps_before}
use Rattle.hall_core.proofs.slots.Slots.undo.Goals as goal

pub returns : goal.returns
returns c = λ s events call keeps. keeps_before s c.args.self.now c.close.new.self events c.args.slot call keeps c.close.ensures.closed
