use Rattle.std.proofs.Common.{◌≡◌, take, refl, sym, ap, subst, ◌∙◌}
use Rattle.sector_disk.specs.Memory.{memory_view}
use Rattle.broker_core.specs.Broker.{settings_of, durable_of}
use Rattle.group_commit.specs.DrillBroker.{IsStarted, HasGenerationOf}
use Rattle.broker_core.specs.IssuerHalf.{half_view}
use Rattle.broker_core.specs.Splitting.{broker_of}
use Rattle.group_commit.specs.declared.split_drilling.Held.TheVariants as held
use Rattle.group_commit.proofs.SplitDrilled.{begun}
use Rattle.group_commit.proofs.split_drilling.begin.Goals as goal

pub split-requires : goal.split-requires
split-requires c = c.in-Ok.ensures.nothing

pub returns-in-Ok-split-clause-begins : goal.returns-in-Ok-split-clause-begins
returns-in-Ok-split-clause-begins c s history durable legal stops =
    let facts = c.in-Ok.ensures.recovers s history durable legal stops in
    let splits = c.in-Ok-split.ensures.ok in
    let is : broker_of c.in-Ok-split.disk ≡ c.in-Ok.broker = splits.disk_is in
    begun s history durable (record { issue = c.in-Ok-split.issue; disk = c.in-Ok-split.disk; held = held.Nothing })
    (subst (λ b. IsStarted s history durable b) (sym is) facts) refl
    (splits.settings ∙ ap settings_of (sym is)) (splits.durable ∙ ap durable_of (sym is)) splits.broken splits.lent
    (subst (λ b. (half_view c.in-Ok-split.issue).stands (take (durable_of b) history)) (sym is)
    (c.in-Ok-split.ensures.stands (take (durable_of c.in-Ok.broker) history) facts.4))

pub returns-in-Ok-split-clause-generation : goal.returns-in-Ok-split-clause-generation
returns-in-Ok-split-clause-generation c = subst (λ b. HasGenerationOf (memory_view c.args.disk).content b) (sym c.in-Ok-split.ensures.ok.disk_is) c.in-Ok.ensures.generation
