use Rattle.std.proofs.Common.{rules}
use Rattle.broker_core.specs.Splitting.{broker_of}
use Rattle.receipts.specs.laws.Serving.{served_at_first}
use Rattle.http_front.proofs.committing.CommitterAtFrontCommitting.raise.Goals as goal

pub returns : goal.returns
returns g c = (search rules, served_at_first g.D.Disk.view g.met.D.Disk.laws g.D.Disk.fault_count (broker_of c.args.self.now.committer.half))
