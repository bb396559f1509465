-- A word for the steps of private functions, which no public contract cites.
use Rattle.std.specs.Prelude.{ℕ, List, [], ◌∷◌, ◌++◌}

-- members behind others, each behind a comma
abbrev pub after_commas : List (List ℕ) → List ℕ
after_commas [] = []
after_commas (m ∷ members) = 44 ∷ (m ++ after_commas members)
