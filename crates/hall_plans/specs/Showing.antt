-- What an operator is shown of environments.
use Rattle.std.specs.Prelude.{◌≡◌, ℕ, List, map, count_by, All}
use Rattle.env_phase.specs.declared.call.EnvCall.{EnvCall}
use Rattle.env_phase.specs.Environment.{phase_of, parties, is_parked}
use Rattle.env_phase.specs.Watching.{phase_told}
use Rattle.hall_plans.specs.declared.environment_status.EnvironmentStatus.{EnvironmentStatus}

-- an environment that waits for so many extensions, as these calls leave it: its phase, and how many of its parties are parked
pub record IsShownAfter (wanted : ℕ) (calls : List EnvCall) (status : EnvironmentStatus) : Type 0 where
  pub phase : phase_told status.phase ≡ phase_of wanted calls
  pub parked : status.parked ≡ count_by (is_parked calls) (parties calls)

-- each environment is shown as the calls of its number leave it
abbrev pub AreShownAfter : ℕ → (ℕ → List EnvCall) → List EnvironmentStatus → Type 0
AreShownAfter wanted calls statuses = All (λ (status : EnvironmentStatus). IsShownAfter wanted (calls status.number) status) statuses

abbrev pub numbers_shown : List EnvironmentStatus → List ℕ
numbers_shown statuses = map (λ (status : EnvironmentStatus). status.number) statuses
