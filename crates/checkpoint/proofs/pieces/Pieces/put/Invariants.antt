use Rattle.std.proofs.Common.{◌-◌, ◌≤◌, Ok, length, take}
use Rattle.sector_disk.specs.Disk.{HasCause}
use Rattle.checkpoint.specs.Pieces.{Puts}
use Rattle.checkpoint.proofs.pieces.Pieces.put.Given as goal

abbrev pub invariant-loop-done : goal.invariant-loop-done
invariant-loop-done g l = record {
  within : l.done ≤ length l.bytes;
  puts : Puts (g.D.Disk.view l.fn.disk) (g.D.Disk.view l.disk) l.fn.self l.self (take l.done l.bytes) (Ok (tt {0}));
  cause : HasCause (g.D.Disk.fault_count l.fn.disk) (g.D.Disk.fault_count l.disk) (Ok (tt {0}));
}

abbrev pub decreases-loop-done : goal.decreases-loop-done
decreases-loop-done g l = length l.bytes - l.done
