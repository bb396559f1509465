use Rattle.std.proofs.Common.{length, ◌-◌, ◌≤◌}
use Rattle.sector_disk.specs.RandomAccess.{IsSameFile}
use Rattle.sector_disk.proofs.Parts.{IsReadTo}
use Rattle.sector_disk.proofs.random_access.read_whole.Given as goal

abbrev pub invariant-loop-done : goal.invariant-loop-done
invariant-loop-done g l =
    let view = g.F.RandomAccessFile.view in
    record {
      within : l.done ≤ length l.out;
      same : IsSameFile (view l.initial.file) (view l.file);
      read : (view l.initial.file).honest → IsReadTo (view l.initial.file) (view l.file) l.at l.done l.out;
    }

abbrev pub decreases-loop-done : goal.decreases-loop-done
decreases-loop-done g l = length l.initial.out - l.done
