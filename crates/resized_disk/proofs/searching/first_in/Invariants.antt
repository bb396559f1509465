use Rattle.std.proofs.Common.{◌≡◌, ℕ, ◌<◌, false}
use Rattle.resized_disk.specs.Pieces.{is_found}
use Rattle.resized_disk.proofs.searching.first_in.Given as goal

abbrev pub invariant-loop-place : goal.invariant-loop-place
invariant-loop-place l = (n : ℕ) → n < l.place → is_found l.header l.half l.at n l.piece ≡ false
