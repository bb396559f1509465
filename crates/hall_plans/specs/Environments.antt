-- The environments of a hall as contracts see them, and which calls of environments they stand for.
use Rattle.std.specs.Prelude.{◌≡◌, ℕ, ◌+◌, ◌≤◌, List, [], ◌∷◌, ◌++◌, length, map, flat_map, slice_get, Some}
use Rattle.std.specs.List.{range_with_len}
use Rattle.env_phase.specs.declared.answer.PollAnswer.{PollAnswer}
use Rattle.env_phase.specs.declared.call.EnvCall.{EnvCall}
use Rattle.env_phase.specs.declared.call.EnvCall.TheVariants.{Shutdown}
use Rattle.env_phase.specs.Polls.{answered_by}
use Rattle.env_phase.specs.State.{EnvState, StandsFor}
use Rattle.hall_plans.specs.Past.{calls_in}

-- ## Numbers

-- one number for each environment, from 1 on
abbrev pub numbers : List EnvState → List ℕ
numbers envs = range_with_len 1 (length envs)

-- each has the number that is one greater than its place
abbrev pub AreNumbered : List EnvState → Type 0
AreNumbered envs = (place : ℕ) (env : EnvState) → slice_get envs place ≡ Some env → env.number ≡ place + 1

-- one of them has this number
abbrev pub IsNumberIn : List EnvState → ℕ → Type 0
IsNumberIn envs number = (1 ≤ number) × (number ≤ length envs)

-- ## What they stand for

-- each waits for so many extensions
abbrev pub AreWaiting : ℕ → List EnvState → Type 0
AreWaiting wanted envs = (place : ℕ) (env : EnvState) → slice_get envs place ≡ Some env → env.wanted ≡ wanted

-- the environments are numbered, each waits for so many extensions, and each stands for those of the calls that were made of
-- it
pub record HoldFor (wanted : ℕ) (envs : List EnvState) (made : List (ℕ × EnvCall)) : Type 0 where
  pub numbered : AreNumbered envs
  pub waits : AreWaiting wanted envs
  pub stands : (place : ℕ) (env : EnvState) → slice_get envs place ≡ Some env → StandsFor env (calls_in (place + 1) made)

-- this holds of each list of calls that the environments hold for, and of for how many extensions they wait
abbrev pub ForEachMade : List EnvState → (ℕ → List (ℕ × EnvCall) → Type 0) → Type 0
ForEachMade envs holds = (wanted : ℕ) (made : List (ℕ × EnvCall)) → HoldFor wanted envs made → holds wanted made

-- this holds of the calls of the environment of this number, whichever they are
abbrev pub ForCallsOf : List EnvState → ℕ → (ℕ → List EnvCall → Type 0) → Type 0
ForCallsOf envs number holds = ForEachMade envs (λ wanted made. holds wanted (calls_in number made))

-- ## One call

-- this environment waits for so many extensions, and stands for the calls of its number among these and one call more
abbrev pub StandsForMore : ℕ → EnvState → List (ℕ × EnvCall) → EnvCall → Type 0
StandsForMore wanted env made call = (env.wanted ≡ wanted) × StandsFor env (calls_in env.number made ++ call ∷ [])

-- whichever calls the old ones held for and whichever call this one stands for beyond them, the new ones hold for them all
abbrev pub IsPut : List EnvState → EnvState → List EnvState → Type 0
IsPut old env new =
    ForEachMade old (λ wanted made.
    (call : EnvCall) → StandsForMore wanted env made call → HoldFor wanted new (made ++ (env.number, call) ∷ []))

-- ## The end of all

-- the environments of these numbers are shut down, in turn
abbrev pub shutdowns : List ℕ → ℕ → List (ℕ × EnvCall)
shutdowns ns now = map (λ n. (n, Shutdown now)) ns

-- the polls that this answers after these calls
abbrev pub answered_at_end : List (ℕ × EnvCall) → List ℕ → ℕ → List (ℕ × PollAnswer)
answered_at_end made ns now = flat_map (λ n. answered_by (calls_in n made) (Shutdown now)) ns

-- the new ones hold for the calls that the old ones held for and the shutdowns of all
abbrev pub AreShutDown : List EnvState → ℕ → List EnvState → Type 0
AreShutDown old now new = ForEachMade old (λ wanted made. HoldFor wanted new (made ++ shutdowns (numbers old) now))

-- these are the polls that the shutdowns answer
abbrev pub AreAnsweredAtEnd : List EnvState → ℕ → List (ℕ × PollAnswer) → Type 0
AreAnsweredAtEnd old now polls = ForEachMade old (λ wanted made. polls ≡ answered_at_end made (numbers old) now)
