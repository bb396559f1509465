-- Digits of numbers.
use Rattle.std.proofs.Common.{◌≡◌, ℕ, zero, suc, ◌+◌, ◌*◌, ◌-◌, ◌/◌, ◌%◌, ◌<◌, ◌≤◌, List, [], ◌∷◌, ◌++◌, refl, arith}
use Rattle.std.specs.Prelude.{decimal}
use Rattle.admin_replies.specs.Lines.{last_digits}

-- the last digits of a number: none, and one more
pub none_last : (k n : ℕ) → k ≡ 0 → [] ≡ last_digits k n
unfolding last_digits
none_last zero n e = refl
none_last (suc k) n e = absurd (omega arith)

pub more_last : (k n : ℕ) → 0 < k → last_digits k n ≡ last_digits (k - 1) (n / 10) ++ decimal (n % 10)
unfolding last_digits
more_last zero n h = absurd (omega arith)
more_last (suc k) n h = let e : suc k - 1 ≡ k = omega arith in rw e refl
