-- Digits of numbers.
use Rattle.std.proofs.Common.{ℕ, ◌+◌, ◌*◌, ◌-◌, ◌≤◌, List, [], ◌∷◌, arith}
use Rattle.operator_view.specs.Limits.{number_after}

-- more digits make no smaller number
pub at_least : (n : ℕ) (digits : List ℕ) → n ≤ number_after n digits
at_least n [] = omega arith
at_least n (c ∷ cs) = let h = at_least (10 * n + (c - 48)) cs in omega arith
