use Rattle.std.proofs.Common.{◌-◌, ◌≤◌}
use Rattle.sector_disk.proofs.making.write_zeros.Given as goal

abbrev pub invariant-loop-done : goal.invariant-loop-done
invariant-loop-done g l = l.done ≤ l.to

abbrev pub decreases-loop-done : goal.decreases-loop-done
decreases-loop-done g l = l.to - l.done
