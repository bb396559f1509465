use Rattle.std.proofs.Common.{◌≤◌, ◌-◌, Ok, None}
use Rattle.sector_disk.specs.Disk.{HasCause}
use Rattle.resized_disk.specs.Reading.{OnlyReads}
use Rattle.resized_disk.specs.Pieces.{TellsFirst, passes}
use Rattle.resized_disk.proofs.searching.search.Given as goal

abbrev pub invariant-loop-count : goal.invariant-loop-count
invariant-loop-count g l = record {
  low : l.from ≤ l.at;
  reads : OnlyReads (g.D.Disk.view l.fn.disk) (g.D.Disk.view l.disk);
  cause : HasCause (g.D.Disk.fault_count l.fn.disk) (g.D.Disk.fault_count l.disk) (Ok (tt {0}));
  none : (g.D.Disk.view l.fn.disk).honest → TellsFirst (passes l.header (g.D.Disk.view l.fn.disk).content) l.from l.at None;
}

abbrev pub decreases-loop-count : goal.decreases-loop-count
decreases-loop-count g l = l.sectors - l.at
