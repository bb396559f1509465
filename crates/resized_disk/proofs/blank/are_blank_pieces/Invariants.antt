use Rattle.std.proofs.Common.{◌≡◌, ◌≤◌, ◌-◌, ◌*◌, true, take, Ok}
use Rattle.sector_disk.specs.Disk.{HasCause}
use Rattle.resized_disk.specs.Reading.{OnlyReads}
use Rattle.resized_disk.specs.Blank.{is_blank}
use Rattle.resized_disk.proofs.blank.are_blank_pieces.Given as goal

abbrev pub invariant-loop-at : goal.invariant-loop-at
invariant-loop-at g l = record {
  low : l.at ≤ l.sectors;
  reads : OnlyReads (g.D.Disk.view l.fn.disk) (g.D.Disk.view l.disk);
  cause : HasCause (g.D.Disk.fault_count l.fn.disk) (g.D.Disk.fault_count l.disk) (Ok (tt {0}));
  blank : (g.D.Disk.view l.fn.disk).honest → is_blank (take (512 * l.at) (g.D.Disk.view l.fn.disk).content) ≡ true;
}

abbrev pub decreases-loop-at : goal.decreases-loop-at
decreases-loop-at g l = l.sectors - l.at
