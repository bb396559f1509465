use Rattle.std.proofs.Common.{rules, ◌≡◌, length, sym, ap, ◌∙◌}
use Rattle.hall_plans.specs.Slots.{open_among}
use Rattle.hall_core.specs.OpenSlots.{open_count}
use Rattle.hall_plans.specs.laws.Statuses.{open_slots_are}
use Rattle.hall_core.proofs.hall.Hall.open_slots.Goals as goal

pub returns-clause-by_past : goal.returns-clause-by_past
returns-clause-by_past g c = λ past stands.
    let broken : c.args.self.now.broken ≡ (g.I.Issuer.view c.args.self.now.issuer).broken = search rules in
    c.open_count.ensures.by_events _ past.slots stands.slots ∙ ap (λ b. length (open_among b past.slots)) broken
    ∙ sym (ap length (open_slots_are (g.I.Issuer.view c.args.self.now.issuer).broken past))

pub returns-clause-by_parts : goal.returns-clause-by_parts
returns-clause-by_parts g c =
    let broken : c.args.self.now.broken ≡ (g.I.Issuer.view c.args.self.now.issuer).broken = search rules in
    c.open_count.ensures.by_entries ∙ ap (λ b. open_count b c.args.self.now.slots) broken
