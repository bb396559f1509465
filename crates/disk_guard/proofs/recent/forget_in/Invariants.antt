use Rattle.std.proofs.Common.{◌≡◌, ℕ, List, length}
use Rattle.std.specs.List.{All, AllWithin}
use Rattle.disk_guard.specs.Marks.{IsRight, Outlives}
use Rattle.disk_guard.proofs.recent.forget_in.Given as goal

abbrev pub invariant-loop-i : goal.invariant-loop-i
invariant-loop-i l =
    (length l.marks ≡ 64)
    × ((content : List ℕ) → All (IsRight content) l.fn.marks → All (IsRight content) l.marks)
    × AllWithin (Outlives l.at l.count) l.marks 0 l.i
