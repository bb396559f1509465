use Rattle.std.proofs.Common.{Ok, ap}
use Rattle.broker_core.specs.Broker.{disk_of, pending_of, opened_of, staged_of}
use Rattle.broker_core.proofs.Advanced.{none_staged_in, fronts_from, leaves_from}
use Rattle.broker_core.proofs.broker.Broker.open_front.Goals as goal

pub returns-then-count-len-clause-live : goal.returns-then-count-len-clause-live
returns-then-count-len-clause-live g c honest before after ahead replays =
    let new = c.open_alone.new.self in
    none_staged_in c.open_alone.result (g.D.Disk.view (disk_of new)) (opened_of new) after (pending_of new) (staged_of new) c.open_alone.ensures.none
    (c.open_alone.ensures.live honest before after ahead replays)

pub returns-in-Ok-true-clause-live : goal.returns-in-Ok-true-clause-live
returns-in-Ok-true-clause-live g c honest before after ahead replays = c.in-Ok-true.ensures.live honest before after ahead replays (ap Ok c.in-Ok-true.field-0-test)

pub returns-in-Ok-false-clause-live : goal.returns-in-Ok-false-clause-live
returns-in-Ok-false-clause-live g c =
    let new = c.open_alone-in-Ok-false.new.self in
    fronts_from g.D.Disk.view c.args.self.now c.open_with_rest.new.self new c.args.group (c.in-Ok-false.ensures.kept (ap Ok c.in-Ok-false.field-0-test)) _ _
    (λ before after live.
    none_staged_in c.open_alone-in-Ok-false.result (g.D.Disk.view (disk_of new)) (opened_of new) after (pending_of new) (staged_of new) c.open_alone-in-Ok-false.ensures.none live)
    c.open_alone-in-Ok-false.ensures.live

pub returns-in-Ok-false-clause-any_moment : goal.returns-in-Ok-false-clause-any_moment
returns-in-Ok-false-clause-any_moment g c =
    let same = c.in-Ok-false.ensures.kept (ap Ok c.in-Ok-false.field-0-test) in
    let old = c.args.self.now in
    let mid = c.open_with_rest.new.self in
    let new = c.open_alone-in-Ok-false.new.self in
    fronts_from g.D.Disk.view old mid new c.args.group same _ _ (λ before after leaves. leaves_from g.D.Disk.view old mid new c.args.group same before after leaves)
    c.open_alone-in-Ok-false.ensures.any_moment
