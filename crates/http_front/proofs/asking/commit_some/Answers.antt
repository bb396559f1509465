use Rattle.broker_core.specs.Splitting.{broker_of}
use Rattle.receipts.specs.laws.Serving.{served_both}
use Rattle.http_front.proofs.asking.commit_some.Goals as goal

pub returns-then-before-issued-clause-served : goal.returns-then-before-issued-clause-served
returns-then-before-issued-clause-served g c =
    served_both g.D.Disk.view g.D.Disk.fault_count (broker_of c.args.half.now) (broker_of c.advance-first.new.half) (broker_of c.advance.new.half) c.advance-first.ensures.served
    c.advance.ensures.served
