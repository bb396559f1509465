-- The row at the first place of the id is changed, with its keys.
use Rattle.std.proofs.Common.{◌∙◌, ap, sym, refl}
use Rattle.std.specs.Map.{values_of}
use Rattle.async_core.proofs.HeldIds.{unchanged_none, changed_first}
use Rattle.async_core.proofs.KeptRows.{stays, changes}
use Rattle.async_core.proofs.held.Held.change.Goals as goal

pub returns-in_default-clause-ok : goal.returns-in_default-clause-ok
returns-in_default-clause-ok c = rw (← c.self.view_is) ((sym (unchanged_none _ _ _ c.self.invariant.held c.args.command.now.id _ c.in_default.ensures)))

pub invariant_of-self : goal.invariant_of-self
invariant_of-self c = stays _ _ _ _ _ c.self.invariant c.switch_keys.new.keys c.in-Some.place c.in-Some-get.row.now c.facts_of-old.result (sym c.in-Some-get.ensures.value) c.facts_of-old.ensures c.in_err-switch_keys.ensures.err

pub invariant_of-self-2 : goal.invariant_of-self-2
invariant_of-self-2 c =
    let there = sym c.in-Some-get.ensures.value in
    let set = c.change_row.ensures c.in-Some-get.row.now there in
    changes _ _ _ _ _ c.self.invariant c.change_row.new.rows c.switch_keys.new.keys c.in-Some.place c.in-Some-get.row.now _ c.with-tally.result there refl set.0 set.1 set.2
    c.facts_of-old.result c.changed_facts-new.result c.with-tally.ensures c.facts_of-old.ensures c.changed_facts-new.ensures c.in_ok-switch_keys.ensures.ok

pub returns-clause-ok : goal.returns-clause-ok
returns-clause-ok c =
    let there = sym c.in-Some-get.ensures.value in
    let set = c.change_row.ensures c.in-Some-get.row.now there in
    rw (← c.self.view_is) ((ap values_of set.0 ∙ changed_first _ _ _ c.self.invariant.held c.args.command.now.id _ c.in-Some.place c.in-Some.ensures c.in-Some-get.row.now _ there refl))
