use Rattle.std.proofs.Common.{◌≡◌, ◌+◌, drop}
use Rattle.checkpoint.specs.Image.{folded}
use Rattle.checkpoint.proofs.legality.check_legal.Given as goal

abbrev pub invariant-loop-gate : goal.invariant-loop-gate
invariant-loop-gate l = record {
  settings : l.table.settings ≡ l.initial.table.settings;
  number : l.table.table.number ≡ l.initial.table.table.number + l.gate-index;
  folds : folded l.initial.table.settings l.table.table (drop l.gate-index l.behind) ≡ folded l.initial.table.settings l.initial.table.table l.behind;
}
