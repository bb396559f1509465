-- The slots that are open by what is kept are those that are open by the events.
use Rattle.std.proofs.Common.{◌≡◌, ◌∙◌, false, rules}
use Rattle.hall_core.specs.OpenSlots.{has_open}
use Rattle.hall_core.proofs.Kept.{open_kept}
use Rattle.hall_core.proofs.slots.Slots.is_open.Goals as goal

pub returns-in-Some-clause-by_events : goal.returns-in-Some-clause-by_events
returns-in-Some-clause-by_events c =
    let is : c.is_open.result ≡ has_open c.args.is_broken c.args.self.now c.args.slot = search rules in
    λ s events keeps. is ∙ open_kept c.args.is_broken s c.args.self.now events c.args.slot keeps

pub returns-in-None-clause-by_events : goal.returns-in-None-clause-by_events
returns-in-None-clause-by_events c =
    let is : false ≡ has_open c.args.is_broken c.args.self.now c.args.slot = search rules in
    λ s events keeps. is ∙ open_kept c.args.is_broken s c.args.self.now events c.args.slot keeps
