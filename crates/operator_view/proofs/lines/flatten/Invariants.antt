use Rattle.std.proofs.Common.{◌≡◌, ◌++◌, length, map, take, drop}
use Rattle.operator_view.specs.Lines.{flat}
use Rattle.operator_view.proofs.lines.flatten.Given as goal

abbrev pub invariant-loop-place : goal.invariant-loop-place
invariant-loop-place l = (l.place-end ≡ length l.initial.text) × (l.text ≡ map flat (take l.place l.initial.text) ++ drop l.place l.initial.text)
