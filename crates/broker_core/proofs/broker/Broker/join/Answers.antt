use Rattle.std.proofs.Common.{take}
use Rattle.broker_core.specs.Broker.{issued_of}
use Rattle.broker_core.specs.Splitting.{broker_of, ahead_of}
use Rattle.broker_core.proofs.Taken.{stands_none}
use Rattle.broker_core.proofs.Joined.{stands_broken, stands_whole}
use Rattle.broker_core.proofs.broker.Broker.join.Goals as goal

pub returns-then-is_some-clause-stands_failed : goal.returns-then-is_some-clause-stands_failed
returns-then-is_some-clause-stands_failed g c history stands =
    stands_none g.D.Disk.view (broker_of c.args.disk) (ahead_of c.args.issue (broker_of c.args.disk)) history stands

pub returns-then-issue-clause-stands : goal.returns-then-issue-clause-stands
returns-then-issue-clause-stands g c history stands =
    stands_broken (stands_none g.D.Disk.view (broker_of c.args.disk) (ahead_of c.args.issue (broker_of c.args.disk)) history stands)

pub returns-in-Ok-clause-headline : goal.returns-in-Ok-clause-headline
returns-in-Ok-clause-headline g c history shared stands whole =
    let old = broker_of c.args.disk in
    stands_whole g.D.Disk.view c.args.issue old c.hand_over.new.broker c.hand_over.ensures.takes history c.in-Ok.ensures.ok shared
    (c.hand_over.ensures.stands (take (issued_of old) history) stands)
