-- In a broken hall those are counted that are open, and else all that are kept.
use Rattle.std.proofs.Common.{◌≡◌, ◌∙◌, sym, ap, length, rules}
use Rattle.hall_plans.specs.Slots.{open_among}
use Rattle.hall_core.specs.OpenSlots.{open_count}
use Rattle.hall_core.proofs.OpenCount.{all_are_open}
use Rattle.hall_core.proofs.slots.Slots.open_count.Goals as goal

pub returns-then-is_broken-clause-by_entries : goal.returns-then-is_broken-clause-by_entries
returns-then-is_broken-clause-by_entries c = c.wanted_count.ensures.by_entries ∙ ap (λ b. open_count b c.args.self.now) (sym c.if-is_broken.true)

pub returns-then-is_broken-clause-by_events : goal.returns-then-is_broken-clause-by_events
returns-then-is_broken-clause-by_events c = λ s events keeps.
    c.wanted_count.ensures.by_events s events keeps ∙ ap (λ b. length (open_among b events)) (sym c.if-is_broken.true)

pub returns-else-is_broken-clause-by_entries : goal.returns-else-is_broken-clause-by_entries
returns-else-is_broken-clause-by_entries c =
    let all : c.len.result ≡ length c.args.self.now = search rules in
    all ∙ sym (all_are_open c.args.self.now) ∙ ap (λ b. open_count b c.args.self.now) (sym c.if-is_broken.false)

pub returns-else-is_broken-clause-by_events : goal.returns-else-is_broken-clause-by_events
returns-else-is_broken-clause-by_events c = λ s events keeps.
    let all : c.len.result ≡ length c.args.self.now = search rules in
    all ∙ keeps.count ∙ ap (λ b. length (open_among b events)) (sym c.if-is_broken.false)
