-- The slot is put among the open ones as one that was just opened.
use Rattle.std.proofs.Common.{Some, subst}
use Rattle.hall_core.specs.SlotSteps.{PutsEntry}
use Rattle.hall_core.specs.declared.open_slot.OpenSlot.{OpenSlot}
use Rattle.hall_core.proofs.Kept.{keeps_opened, ok_after}
use Rattle.hall_core.proofs.slots.Slots.open.Goals as goal

pub returns-clause-ok : goal.returns-clause-ok
returns-clause-ok c =
    λ s events keeps told. ok_after c.put.result _ _ c.put.ensures.ok
    (λ puts call. keeps_opened s c.args.self.now c.put.new.self events c.args.slot c.args.unavailable call keeps c.requires told
    (let P = λ (entry : OpenSlot). PutsEntry c.args.self.now c.put.new.self c.args.slot (Some entry) in subst P c.new.ensures puts))
