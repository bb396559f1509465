use Rattle.std.proofs.Common.{length, ◌+◌, ◌-◌, ◌≤◌}
use Rattle.sector_disk.specs.RandomAccess.{IsSameFile}
use Rattle.sector_disk.proofs.Parts.{IsWrittenTo}
use Rattle.sector_disk.proofs.random_access.write_whole.Given as goal

abbrev pub invariant-loop-done : goal.invariant-loop-done
invariant-loop-done g l =
    let view = g.F.RandomAccessFile.view in
    let first = view l.initial.file in
    record {
      within : l.done ≤ length l.bytes;
      same : IsSameFile first (view l.file);
      written : first.honest → l.at + length l.bytes ≤ length first.content → IsWrittenTo first (view l.file) l.at l.bytes l.done;
    }

abbrev pub decreases-loop-done : goal.decreases-loop-done
decreases-loop-done g l = length l.bytes - l.done
