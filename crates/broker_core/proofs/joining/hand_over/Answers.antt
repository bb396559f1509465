use Rattle.std.proofs.Common.{refl, subst}
use Rattle.std.proofs.lemmas.Bool.{false≢true}
use Rattle.broker_core.specs.declared.taking.TakeError.{TakeError}
use Rattle.broker_core.specs.Splitting.{ahead_of}
use Rattle.broker_core.specs.Taking.{StopsBefore}
use Rattle.broker_core.proofs.Taken.{takes_none, stands_none}
use Rattle.broker_core.proofs.Joined.{joined, agreed, takes_ahead, stands_ahead, all_ahead, full_ahead, apart_ahead}
use Rattle.broker_core.proofs.joining.hand_over.Goals as goal

pub returns-in_default-clause-takes : goal.returns-in_default-clause-takes
returns-in_default-clause-takes g c = takes_none c.args.broker.now (ahead_of c.args.issue.now c.args.broker.now)

pub returns-in_default-clause-stands : goal.returns-in_default-clause-stands
returns-in_default-clause-stands g c history stands = stands_none g.D.Disk.view c.args.broker.now (ahead_of c.args.issue.now c.args.broker.now) history stands

pub returns-in-Ok-take_all-clause-takes : goal.returns-in-Ok-take_all-clause-takes
returns-in-Ok-take_all-clause-takes g c =
    takes_ahead g.D.Disk.view c.args.issue.now c.args.broker.now c.take_all.new.broker c.issued.result c.in-Ok.commands.items c.issued.ensures c.in-Ok.ensures c.take_all.ensures.takes

pub returns-in-Ok-take_all-clause-stands : goal.returns-in-Ok-take_all-clause-stands
returns-in-Ok-take_all-clause-stands g c history stands =
    stands_ahead g.D.Disk.view c.args.issue.now c.args.broker.now c.take_all.new.broker c.issued.result c.in-Ok.commands.items c.issued.ensures c.in-Ok.ensures history (c.take_all.ensures.stands history stands)

pub returns-in-Ok-2-clause-takes : goal.returns-in-Ok-2-clause-takes
returns-in-Ok-2-clause-takes g c =
    takes_ahead g.D.Disk.view c.args.issue.now c.args.broker.now c.take_all.new.broker c.issued.result c.in-Ok.commands.items c.issued.ensures c.in-Ok.ensures c.take_all.ensures.takes

pub returns-in-Ok-2-clause-stands : goal.returns-in-Ok-2-clause-stands
returns-in-Ok-2-clause-stands g c history stands =
    stands_ahead g.D.Disk.view c.args.issue.now c.args.broker.now c.take_all.new.broker c.issued.result c.in-Ok.commands.items c.issued.ensures c.in-Ok.ensures history (c.take_all.ensures.stands history stands)

pub returns-in-Err-Illegal-clause-takes : goal.returns-in-Err-Illegal-clause-takes
returns-in-Err-Illegal-clause-takes g c =
    takes_ahead g.D.Disk.view c.args.issue.now c.args.broker.now c.take_all.new.broker c.issued.result c.in-Ok.commands.items c.issued.ensures c.in-Ok.ensures c.take_all.ensures.takes

pub returns-in-Err-Illegal-clause-stands : goal.returns-in-Err-Illegal-clause-stands
returns-in-Err-Illegal-clause-stands g c history stands =
    stands_ahead g.D.Disk.view c.args.issue.now c.args.broker.now c.take_all.new.broker c.issued.result c.in-Ok.commands.items c.issued.ensures c.in-Ok.ensures history (c.take_all.ensures.stands history stands)

pub returns-in-Err-Backlog-clause-takes : goal.returns-in-Err-Backlog-clause-takes
returns-in-Err-Backlog-clause-takes g c =
    takes_ahead g.D.Disk.view c.args.issue.now c.args.broker.now c.take_all.new.broker c.issued.result c.in-Ok.commands.items c.issued.ensures c.in-Ok.ensures c.take_all.ensures.takes

pub returns-in-Err-Backlog-clause-stands : goal.returns-in-Err-Backlog-clause-stands
returns-in-Err-Backlog-clause-stands g c history stands =
    stands_ahead g.D.Disk.view c.args.issue.now c.args.broker.now c.take_all.new.broker c.issued.result c.in-Ok.commands.items c.issued.ensures c.in-Ok.ensures history (c.take_all.ensures.stands history stands)

pub returns-in-Err-OutOfMemory-clause-takes : goal.returns-in-Err-OutOfMemory-clause-takes
returns-in-Err-OutOfMemory-clause-takes g c =
    takes_ahead g.D.Disk.view c.args.issue.now c.args.broker.now c.take_all.new.broker c.issued.result c.in-Ok.commands.items c.issued.ensures c.in-Ok.ensures c.take_all.ensures.takes

pub returns-in-Err-OutOfMemory-clause-stands : goal.returns-in-Err-OutOfMemory-clause-stands
returns-in-Err-OutOfMemory-clause-stands g c history stands =
    stands_ahead g.D.Disk.view c.args.issue.now c.args.broker.now c.take_all.new.broker c.issued.result c.in-Ok.commands.items c.issued.ensures c.in-Ok.ensures history (c.take_all.ensures.stands history stands)

pub returns-in-Ok-take_all-clause-ok : goal.returns-in-Ok-take_all-clause-ok
returns-in-Ok-take_all-clause-ok g c =
    joined g.D.Disk.view c.args.issue.now c.args.broker.now c.take_all.new.broker (takes_ahead g.D.Disk.view c.args.issue.now c.args.broker.now c.take_all.new.broker c.issued.result c.in-Ok.commands.items c.issued.ensures c.in-Ok.ensures c.take_all.ensures.takes)
    (all_ahead g.D.Disk.view c.args.issue.now c.args.broker.now c.take_all.new.broker c.issued.result c.in-Ok.commands.items c.issued.ensures c.in-Ok.ensures c.in-Ok-take_all.ensures.all) (c.if-is_same.ensures.0 refl)

pub returns-in-Ok-2-clause-err : goal.returns-in-Ok-2-clause-err
returns-in-Ok-2-clause-err g c agree =
    false≢true (c.if-is_same.ensures.1 (agreed g.D.Disk.view c.args.issue.now c.args.broker.now c.take_all.new.broker (takes_ahead g.D.Disk.view c.args.issue.now c.args.broker.now c.take_all.new.broker c.issued.result c.in-Ok.commands.items c.issued.ensures c.in-Ok.ensures c.take_all.ensures.takes)
    (all_ahead g.D.Disk.view c.args.issue.now c.args.broker.now c.take_all.new.broker c.issued.result c.in-Ok.commands.items c.issued.ensures c.in-Ok.ensures c.in-Ok-2.ensures.all) agree))

pub returns-in-Err-Illegal-clause-err : goal.returns-in-Err-Illegal-clause-err
returns-in-Err-Illegal-clause-err g c =
    apart_ahead g.D.Disk.view c.args.issue.now c.args.broker.now c.take_all.new.broker c.issued.result c.in-Ok.commands.items c.issued.ensures c.in-Ok.ensures c.take_all.ensures.takes
    (subst (λ (e : TakeError). StopsBefore c.args.broker.now c.take_all.new.broker c.in-Ok.commands.items e) c.in-Err-Illegal.field-0-is c.in-Err-Illegal.ensures.err)

pub returns-in-Err-Backlog-clause-err : goal.returns-in-Err-Backlog-clause-err
returns-in-Err-Backlog-clause-err g c =
    full_ahead g.D.Disk.view c.args.issue.now c.args.broker.now c.take_all.new.broker c.issued.result c.in-Ok.commands.items c.issued.ensures c.in-Ok.ensures c.take_all.ensures.takes
    (subst (λ (e : TakeError). StopsBefore c.args.broker.now c.take_all.new.broker c.in-Ok.commands.items e) c.in-Err-Backlog.field-0-is c.in-Err-Backlog.ensures.err)
