-- The row at the first place of the id goes, with its id and keys.
use Rattle.std.proofs.Common.{sym}
use Rattle.async_core.proofs.HeldIds.{removed_none, removed_first}
use Rattle.async_core.proofs.KeptRows.{goes}
use Rattle.async_core.proofs.held.Held.remove.Goals as goal

pub invariant_of-self : goal.invariant_of-self
invariant_of-self c =
    goes _ _ _ _ _ c.self.invariant c.take_row.new.rows c.remove.new.self c.remove_keys.new.keys c.args.id.now c.in-Some.place c.in-Some-get.row.now c.with-tally.result c.in-Some.ensures (sym c.in-Some-get.ensures.value)
    c.take_row.ensures c.remove.ensures.updates c.facts_of-facts.result c.with-tally.ensures c.facts_of-facts.ensures c.remove_keys.ensures

pub returns-in-Some-get : goal.returns-in-Some-get
returns-in-Some-get c = rw (← c.self.view_is) ((removed_first _ _ _ c.self.invariant.held c.args.id.now c.in-Some.place c.in-Some.ensures c.take_row.new.rows c.take_row.ensures))

pub returns-in_default : goal.returns-in_default
returns-in_default c = rw (← c.self.view_is) ((sym (removed_none _ _ _ c.self.invariant.held c.args.id.now c.in_default.ensures)))
