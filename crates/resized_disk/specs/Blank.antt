-- A disk on which nothing stands.
use Rattle.std.specs.Prelude.{ℕ, ◌==◌, Bool, List}
use Rattle.std.specs.List.{list_all}

-- all bytes are zeros
abbrev pub is_blank : List ℕ → Bool
is_blank image = list_all (λ b. b == 0) image
