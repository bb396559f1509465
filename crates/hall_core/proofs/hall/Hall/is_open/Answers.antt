use Rattle.std.proofs.Common.{rules, ◌≡◌, ◌==◌, sym, ap, ◌∙◌}
use Rattle.std.specs.List.{list_any}
use Rattle.hall_plans.specs.Slots.{is_open_in}
use Rattle.hall_core.specs.OpenSlots.{has_open}
use Rattle.hall_plans.specs.laws.Statuses.{open_slots_are}
use Rattle.hall_core.proofs.hall.Hall.is_open.Goals as goal

pub returns-clause-by_past : goal.returns-clause-by_past
returns-clause-by_past g c = λ past stands.
    let broken : c.args.self.now.broken ≡ (g.I.Issuer.view c.args.self.now.issuer).broken = search rules in
    c.is_open.ensures.by_events _ past.slots stands.slots ∙ ap (λ b. is_open_in b past.slots c.args.slot) broken
    ∙ sym (ap (list_any (λ other. c.args.slot == other)) (open_slots_are (g.I.Issuer.view c.args.self.now.issuer).broken past))

pub returns-clause-by_parts : goal.returns-clause-by_parts
returns-clause-by_parts g c =
    let broken : c.args.self.now.broken ≡ (g.I.Issuer.view c.args.self.now.issuer).broken = search rules in
    c.is_open.ensures.by_entry ∙ ap (λ b. has_open b c.args.self.now.slots c.args.slot) broken
