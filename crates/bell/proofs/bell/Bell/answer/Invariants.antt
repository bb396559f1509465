use Rattle.std.proofs.Common.{◌≡◌}
use Rattle.bell.proofs.bell.Bell.answer.Given as goal

-- each slot so far was told
abbrev pub invariant-loop-slot : goal.invariant-loop-slot
invariant-loop-slot g l = (l.answered.count ≡ l.slot-index) × (l.answered.number ≡ l.number) × (l.answered.at.value ≡ l.self.source)
