use Rattle.broker_core.specs.Splitting.{broker_of}
use Rattle.receipts.specs.laws.Serving.{served_by_advance}
use Rattle.http_front.proofs.asking.ask.Goals as goal

pub returns-in-Ok-clause-served : goal.returns-in-Ok-clause-served
returns-in-Ok-clause-served g c =
    served_by_advance g.D.Disk.view g.met.D.Disk.laws g.D.Disk.fault_count (broker_of c.args.half.now) (broker_of c.advance-committed.new.disk) c.advance-committed.result.answer c.advance-committed.ensures.disk

pub returns-in-Err-clause-served : goal.returns-in-Err-clause-served
returns-in-Err-clause-served g c =
    served_by_advance g.D.Disk.view g.met.D.Disk.laws g.D.Disk.fault_count (broker_of c.args.half.now) (broker_of c.advance-committed.new.disk) c.advance-committed.result.answer c.advance-committed.ensures.disk
