-- What is counted is open, and those are the open ones by the events.
use Rattle.std.proofs.Common.{◌≡◌, ◌∙◌, true, subst, nat_cmp, rules}
use Rattle.std.specs.List.Sorted.{IsStrictlySortedBy}
use Rattle.std.specs.Map.{keys_of}
use Rattle.hall_core.specs.OpenSlots.{open_count}
use Rattle.hall_core.proofs.OpenCount.{open_counted}
use Rattle.hall_core.proofs.slots.Slots.wanted_count.Goals as goal

pub returns-clause-by_events : goal.returns-clause-by_events
returns-clause-by_events c =
    let is : c.count.result ≡ open_count true c.args.self.now = search rules in
    let same : c.self.inside.slots.entries ≡ c.args.self.now = search rules in
    let ordered = subst (λ slots. IsStrictlySortedBy nat_cmp (keys_of slots)) same c.values.ensures.ordered in
    λ s events keeps. is ∙ open_counted true s c.args.self.now events ordered keeps
