-- The slot's entry is the new one, and the others stay.
use Rattle.std.proofs.Common.{rules, arith, ◌≡◌, ℕ, ◌+◌, Option, Some, None, length, subst}
use Rattle.std.specs.Prelude.{is_some, if◌then◌else◌}
use Rattle.std.specs.Option.{option_len}
use Rattle.hall_core.specs.declared.open_slot.OpenSlot.{OpenSlot}
use Rattle.hall_core.specs.OpenSlots.{Entries, entry_at}
use Rattle.hall_core.proofs.slots.Slots.put.Goals as goal

-- one more, unless there was one
counted : (after before : ℕ) (old : Option OpenSlot) → after ≡ before + (if is_some old then 0 else 1) → after + option_len old ≡ before + 1
counted after before (Some entry) is = omega (arith, is)
counted after before None is = omega (arith, is)

pub returns-clause-ok : goal.returns-clause-ok
returns-clause-ok c = record {
  each = λ other. search rules;
  count =
      subst (λ (slots : Entries). length c.insert.new.self.entries + option_len (entry_at slots c.args.slot) ≡ length slots + 1) c.self.view_is
      (subst (λ (old : Option OpenSlot). length c.insert.new.self.entries + option_len old ≡ length c.self.inside.slots.entries + 1)
      c.in_ok-insert.ensures.old (counted _ _ c.in_ok-insert.field-0 c.in_ok-insert.ensures.len));
}
