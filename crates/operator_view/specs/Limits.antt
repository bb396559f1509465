-- How many events or records a page may have, by the digits that ask for them.
use Rattle.std.specs.Prelude.{ℕ, ◌+◌, ◌*◌, ◌-◌, nat_le, ◌&&◌, List, [], ◌∷◌, Option, Some, None, if◌then◌else◌}
use Rattle.std.specs.Str.{all_ascii_digits}

-- the number behind these digits
abbrev pub number_after : ℕ → List ℕ → ℕ
number_after n [] = n
number_after n (c ∷ cs) = number_after (10 * n + (c - 48)) cs

-- the number, if these are digits and it is at most a thousand
abbrev pub number_of : ℕ → List ℕ → Option ℕ
number_of n text = if all_ascii_digits text && nat_le (number_after n text) 1000 then Some (number_after n text) else None
