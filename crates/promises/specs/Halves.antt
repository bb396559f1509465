-- The halves of a broker, where what the issue half holds for durable is durable on the disk.
use Rattle.std.specs.Prelude.{◌≤◌, List, take}
use Rattle.sector_disk.specs.Disk.{DiskView}
use Rattle.sector_disk.specs.declared.disk.Disk.{Ghosts}
use Rattle.invoke_records.specs.declared.command.Command.{Command}
use Rattle.broker_core.specs.declared.broker.Broker.{Broker}
use Rattle.broker_core.specs.declared.issue_half.IssueHalf.{IssueHalf}
use Rattle.broker_core.specs.Broker.{durable_of, issued_of, Stands}
use Rattle.broker_core.specs.IssuerHalf.{half_view}

-- the issue half stands for this history, and the half over the disk for a front of it, of which no less is durable
pub record IsBehind {D : Type 0} {g : Ghosts D} (view : D → DiskView) (issue : IssueHalf) (disk : Broker D g) (history : List Command) : Type 0 where
  pub issued : (half_view issue).stands history
  pub front : Stands view disk (take (issued_of disk) history)
  pub durable : (half_view issue).durable ≤ durable_of disk
