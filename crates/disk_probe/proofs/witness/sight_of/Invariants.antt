use Rattle.std.proofs.Common.{◌≡◌}
use Rattle.disk_probe.proofs.witness.sight_of.Given as goal

abbrev pub invariant-loop-n : goal.invariant-loop-n
invariant-loop-n g l = (g.D.Disk.view l.disk).sectors ≡ (g.D.Disk.view l.fn.disk).sectors
