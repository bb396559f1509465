-- The row at the first place of the id.
use Rattle.std.proofs.Common.{◌∙◌, sym}
use Rattle.async_core.proofs.HeldIds.{found_none, found_first}
use Rattle.async_core.proofs.held.Held.find.Goals as goal

pub returns-in-Some : goal.returns-in-Some
returns-in-Some c = rw (← c.self.view_is) (c.get.ensures.value ∙ sym (found_first _ _ _ c.self.invariant.held c.args.id.now c.in-Some.place c.in-Some.ensures))

pub returns-in-None : goal.returns-in-None
returns-in-None c = rw (← c.self.view_is) (sym (found_none _ _ _ c.self.invariant.held c.args.id.now c.in-None.ensures))
