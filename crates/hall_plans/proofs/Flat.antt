-- Lemmas: what the shutdowns of environments answer, one after another.
use Rattle.std.proofs.Common.{◌≡◌, ℕ, List, [], ◌∷◌, ◌++◌, refl, ap}
use Rattle.env_phase.specs.declared.call.EnvCall.{EnvCall}
use Rattle.env_phase.specs.declared.call.EnvCall.TheVariants.{Shutdown}
use Rattle.env_phase.specs.Polls.{answered_by}
use Rattle.hall_plans.specs.Past.{calls_in}
use Rattle.hall_plans.specs.Environments.{shutdowns, answered_at_end}
use Rattle.hall_plans.specs.Changes.{answered_to}

pub answered_by_shutdowns : (before : List (ℕ × EnvCall)) (ns : List ℕ) (now : ℕ) → answered_at_end before ns now ≡ answered_to before (shutdowns ns now)
answered_by_shutdowns before [] now = refl
answered_by_shutdowns before (n ∷ ns) now = ap (λ l. answered_by (calls_in n before) (Shutdown now) ++ l) (answered_by_shutdowns before ns now)
