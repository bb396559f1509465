use Rattle.std.proofs.Common.{ℕ, ◌<◌, ◌≢◌}
use Rattle.disk_guard.specs.Marks.{KeepsAt}
use Rattle.disk_guard.proofs.recent.Recent.shows_other.Given as goal

abbrev pub invariant-loop-i : goal.invariant-loop-i
invariant-loop-i l = (place : ℕ) → place < l.i → KeepsAt place l.self l.mark → l.mark.bytes ≢ l.shown → ⊥
