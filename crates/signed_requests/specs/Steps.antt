-- What the code's slices stand for.
use Rattle.std.specs.Prelude.{ℕ, List, map, Option, option_map}
use Rattle.std.specs.Borrow.{Bor}

abbrev pub slices : List (Bor (List ℕ)) → List (List ℕ)
slices parts = map (λ (part : Bor (List ℕ)). part.now) parts

abbrev pub option_slice : Option (Bor (List ℕ)) → Option (List ℕ)
option_slice value = option_map (λ (part : Bor (List ℕ)). part.now) value
