use Rattle.std.proofs.Common.{◌≡◌, ◌-◌, ◌*◌, ◌%◌, ◌≤◌, Ok, length, take, drop}
use Rattle.sector_disk.specs.Disk.{HasCause}
use Rattle.checkpoint.specs.Opening.{OnlyReads}
use Rattle.checkpoint.proofs.reading.read_pieces.Given as goal

abbrev pub invariant-loop-done : goal.invariant-loop-done
invariant-loop-done g l = record {
  within : l.done ≤ length l.bytes;
  whole : l.done % 512 ≡ 0;
  reads : OnlyReads (g.D.Disk.view l.fn.disk) (g.D.Disk.view l.disk);
  cause : HasCause (g.D.Disk.fault_count l.fn.disk) (g.D.Disk.fault_count l.disk) (Ok (tt {0}));
  read : (g.D.Disk.view l.fn.disk).honest → take l.done l.bytes ≡ take l.done (drop (512 * l.at) (g.D.Disk.view l.fn.disk).content);
}

abbrev pub decreases-loop-done : goal.decreases-loop-done
decreases-loop-done g l = length l.bytes - l.done
