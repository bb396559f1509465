-- Where the first byte of a kind stands.
use Rattle.std.proofs.Common.{◌≡◌, ◌≤◌, ℕ, Bool, true, false, cond, ltb, List, length, Some, None, refl, arith}
use Rattle.std.specs.List.{position, position_or_len}
use Rattle.std.proofs.lemmas.Bool.Decides.{nat_tests}

both : (b : Bool) (n i : ℕ) → cond b (Some n) None ≡ Some i → (b ≡ true) × (n ≡ i)
both true n i e = (refl, cc)
both false n i e = cc

none : (b : Bool) (n : ℕ) → cond b (Some n) None ≡ None → b ≡ false
none true n e = cc
none false n e = refl

pub found : (p : ℕ → Bool) (xs : List ℕ) (i : ℕ) → position p xs ≡ Some i → position_or_len p xs ≡ i
found p xs i e = (both (ltb (position_or_len p xs) (length xs)) (position_or_len p xs) i e).1

pub missed : (p : ℕ → Bool) (xs : List ℕ) → position p xs ≡ None → length xs ≤ position_or_len p xs
missed p xs e = let h = none (ltb (position_or_len p xs) (length xs)) (position_or_len p xs) e in grind (arith, nat_tests)
