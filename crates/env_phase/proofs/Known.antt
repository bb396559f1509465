-- Lemmas: extensions that are known by what is kept of them.
use Rattle.std.proofs.Common.{◌≡◌, ℕ, List, [], ◌∷◌, map, ◌||◌, refl, ap}
use Rattle.std.specs.List.{list_any}
use Rattle.env_phase.specs.declared.call.Waiter.{Waiter}
use Rattle.env_phase.specs.Calls.{is_known}
use Rattle.env_phase.specs.Steps.{party_at, has_party}

pub known_kept : (identifier : List ℕ) (extensions : List Waiter)
    → is_known identifier (map party_at extensions) ≡ list_any (has_party identifier) extensions
known_kept identifier [] = refl
known_kept identifier (w ∷ extensions) = ap (λ b. has_party identifier w || b) (known_kept identifier extensions)
