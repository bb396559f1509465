use Rattle.std.proofs.Common.{◌≡◌, ℕ, ◌+◌, ◌≤◌, ◌-◌, Ok}
use Rattle.sector_disk.specs.Disk.{HasCause}
use Rattle.resized_disk.specs.Reading.{OnlyReads}
use Rattle.resized_disk.specs.Frames.{end_from}
use Rattle.resized_disk.proofs.frames.end_from.Given as goal

abbrev pub invariant-loop-at : goal.invariant-loop-at
invariant-loop-at g l = record {
  inside : l.at ≤ l.end;
  reads : OnlyReads (g.D.Disk.view l.fn.disk) (g.D.Disk.view l.disk);
  cause : HasCause (g.D.Disk.fault_count l.fn.disk) (g.D.Disk.fault_count l.disk) (Ok (tt {0}));
  walked : (g.D.Disk.view l.fn.disk).honest
      → (left : ℕ) × (l.end ≤ l.at + left)
      × (end_from (g.D.Disk.view l.fn.disk).sectors l.end l.gate (g.D.Disk.view l.fn.disk).content ≡ end_from left l.end l.at (g.D.Disk.view l.fn.disk).content);
}

abbrev pub decreases-loop-at : goal.decreases-loop-at
decreases-loop-at g l = l.end - l.at
