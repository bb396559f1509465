-- What becomes of environments by a change, and what polls are answered by it.
use Rattle.std.specs.Prelude.{◌≡◌, ℕ, List, [], ◌∷◌, ◌++◌, length, flat_map, Some}
use Rattle.env_phase.specs.declared.answer.PollAnswer.{PollAnswer}
use Rattle.env_phase.specs.declared.call.EnvCall.{EnvCall}
use Rattle.env_phase.specs.declared.refusal.Refusal.{Refusal}
use Rattle.env_phase.specs.Polls.{answered_by, refusal_of}
use Rattle.env_phase.specs.State.{EnvState}
use Rattle.hall_plans.specs.declared.changes.Changes.{Changes}
use Rattle.hall_plans.specs.declared.changes.Changes.TheVariants as changes
use Rattle.hall_plans.specs.declared.error.HallError.{HallError}
use Rattle.hall_plans.specs.declared.error.HallError.TheVariants as error
use Rattle.hall_plans.specs.Past.{calls_in}
use Rattle.hall_plans.specs.Environments.{IsNumberIn, ForEachMade, HoldFor, StandsForMore}

-- there are as many environments afterwards, and none but these are changed
abbrev pub IsWithin : List EnvState → Changes → Type 0
IsWithin envs changes.Nothing = Unit {0}
IsWithin envs (changes.One env) = IsNumberIn envs env.number
IsWithin envs (changes.All ended) = length ended ≡ length envs

-- this environment stands for one call more, and that is the only one
pub record IsOneMore (wanted : ℕ) (env : EnvState) (before more : List (ℕ × EnvCall)) : Type 0 where
  pub call : EnvCall
  pub only : more ≡ (env.number, call) ∷ []
  pub stands : StandsForMore wanted env before call

-- whatever calls the environments hold for, by the change they hold for these too
abbrev pub LeadsTo : List EnvState → Changes → List (ℕ × EnvCall) → Type 0
LeadsTo envs changes.Nothing more = more ≡ []
LeadsTo envs (changes.One env) more = ForEachMade envs (λ wanted before. IsOneMore wanted env before more)
LeadsTo envs (changes.All ended) more = ForEachMade envs (λ wanted before. HoldFor wanted ended (before ++ more))

-- the polls that these calls answer, each after those that were made before
abbrev pub answered_to : List (ℕ × EnvCall) → List (ℕ × EnvCall) → List (ℕ × PollAnswer)
answered_to before more = flat_map (λ (m : ℕ × EnvCall). answered_by (calls_in m.0 before) m.1) more

-- by the change the environments hold for whichever calls it leads to
abbrev pub Leads : List EnvState → Changes → List EnvState → Type 0
Leads old change new =
    (more : List (ℕ × EnvCall)) → LeadsTo old change more → ForEachMade old (λ wanted before. HoldFor wanted new (before ++ more))

-- ## What is not called

-- this environment refuses the call after these, and that is the only one
pub record IsOneRefused (wanted : ℕ) (before more : List (ℕ × EnvCall)) : Type 0 where
  pub environment : ℕ
  pub call : EnvCall
  pub why : Refusal
  pub only : more ≡ (environment, call) ∷ []
  pub refused : refusal_of wanted (calls_in environment before) call ≡ Some why

-- why these calls are not made: for want of memory, or where the environment refuses the one that it is
abbrev pub IsUncalled : List EnvState → List (ℕ × EnvCall) → HallError → Type 0
IsUncalled envs more error.OutOfMemory = Unit {0}
IsUncalled envs more error.NoHistory = ForEachMade envs (λ wanted before. IsOneRefused wanted before more)
IsUncalled envs more other = ⊥
