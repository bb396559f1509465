use Rattle.std.proofs.Common.{◌≡◌, drop}
use Rattle.checkpoint.specs.Image.{kinds_in}
use Rattle.checkpoint.proofs.legality.check_kinds.Given as goal

abbrev pub invariant-loop-gate : goal.invariant-loop-gate
invariant-loop-gate l = kinds_in l.version (drop l.gate-index l.behind) ≡ kinds_in l.version l.behind
