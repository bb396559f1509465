-- What a call is planned from, and what its plan says.
use Rattle.std.specs.Prelude.{◌≡◌, ℕ, ◌≤◌, Bool, List, [], ◌∷◌, length, map, Option, Some, None, IfSome, slice_index}
use Rattle.std.specs.List.{range_with_len}
use Rattle.retry_rules.specs.declared.settings.Settings.{Settings}
use Rattle.retry_rules.specs.Settings.{bad_field}
use Rattle.invoke_records.specs.Spelling.{greatest_moment}
use Rattle.async_core.specs.History.{table_of}
use Rattle.async_core.specs.State.{State}
use Rattle.env_phase.specs.declared.call.EnvCall.{EnvCall}
use Rattle.env_phase.specs.declared.call.EnvCall.TheVariants.{Shutdown}
use Rattle.env_phase.specs.Calls.{moment_by, IsMoment}
use Rattle.env_phase.specs.State.{EnvState}
use Rattle.api_core.specs.declared.answer.Answer.{Answer}
use Rattle.api_core.specs.declared.answer.Answer.TheVariants as answer
use Rattle.api_core.specs.declared.call.Call.{Call}
use Rattle.api_core.specs.declared.call.Call.TheVariants as calls
use Rattle.hall_plans.specs.declared.plan.Made.{Made}
use Rattle.hall_plans.specs.declared.plan.Made.TheVariants as made
use Rattle.hall_plans.specs.Past.{Past, is_stopping}
use Rattle.api_core.specs.Replies.{IsTellable}
use Rattle.hall_plans.specs.Effects.{Effect, Scene, id_of, effect_of_request, effect_of_tick, scene}
use Rattle.hall_plans.specs.Agreement.{IsKept, text_of}
use Rattle.hall_plans.specs.Environments.{HoldFor, IsNumberIn}

-- ## What is called

-- the calls of environments by their numbers: none, one, or the shutdown of each
abbrev pub calls_made : Made → List (ℕ × EnvCall)
calls_made made.Nothing = []
calls_made (made.One environment call) = (environment, call) ∷ []
calls_made (made.ShutdownAll count now) = map (λ number. (number, Shutdown now)) (range_with_len 1 count)

-- the environments are there, and the moment is one
abbrev pub AreCallable : List EnvState → Made → Type 0
AreCallable envs made.Nothing = Unit {0}
AreCallable envs (made.One environment call) = IsNumberIn envs environment × IsMoment (moment_by call)
AreCallable envs (made.ShutdownAll count now) = (count ≡ length envs) × IsMoment now

-- it is one of these, if it is any
abbrev pub AnyIn : List EnvState → Option ℕ → Type 0
AnyIn environments number = IfSome number (λ n. IsNumberIn environments n)

-- ## Moments, which a record holds and which have a text

-- the moment of a record that is told
abbrev pub moment_told : Answer → ℕ
moment_told (answer.Record e) = e.at
moment_told other = 0

abbrev pub moment_replied : Option Answer → ℕ
moment_replied None = 0
moment_replied (Some answered) = moment_told answered

-- so that the answer is told
pub is_tellable : (a : Answer) → IsMoment (moment_told a) → IsTellable a
is_tellable (answer.Record e) at = at
is_tellable other at = tt

-- ## What a call is planned from

-- the table and the environments are those of this past, which keeps what every call keeps
pub record Meets (table : State) (environments : List EnvState) (past : Past) : Type 0 where
  pub good : bad_field table.settings ≡ None
  pub table_is : table.table ≡ table_of table.settings past.history
  pub count : length environments ≡ table.settings.environments
  pub hold : HoldFor past.wanted environments past.made
  pub kept : IsKept table.settings past

-- a call that comes so now, and after this past, meets this
abbrev pub scene_at : State → Past → ℕ → Scene
scene_at table past at = record { settings = table.settings; past = past; now = at }

-- this holds of each past that they meet
abbrev pub ForEachPast : State → List EnvState → (Past → Type 0) → Type 0
ForEachPast table environments holds = (past : Past) → Meets table environments past → holds past

-- ## What its plan says

-- what a call does, and which environments it calls for that
pub record PlanView : Type 0 where
  pub effect : Effect
  pub called : Made

-- the id that is drawn by two words
unfoldable pub drawn_by : List ℕ → List ℕ
drawn_by words = id_of (slice_index words 0, slice_index words 1)

-- the effect is that of the request, whatever past it meets
abbrev pub PlansRequest : State → List EnvState → ℕ → Call → ℕ → List ℕ → Effect → Type 0
PlansRequest table environments slot call now words effect =
    ForEachPast table environments (λ past. effect ≡ effect_of_request (scene table.settings past now) slot (drawn_by words) call)

-- the effect is that of a tick, whatever past it meets that is stopping or is not
abbrev pub PlansTick : State → List EnvState → Bool → ℕ → Effect → Type 0
PlansTick table environments stopping now effect =
    ForEachPast table environments (λ past. stopping ≡ is_stopping past → effect ≡ effect_of_tick (scene table.settings past now))

-- the environment of a request is one of these, if it is to one
abbrev pub IsToOneOf : List EnvState → Call → Type 0
IsToOneOf environments (calls.RuntimeNext environment) = IsNumberIn environments environment
IsToOneOf environments (calls.Response environment id body) = IsNumberIn environments environment
IsToOneOf environments (calls.RuntimeError environment id body) = IsNumberIn environments environment
IsToOneOf environments (calls.RuntimeInitError environment) = IsNumberIn environments environment
IsToOneOf environments (calls.Register environment name invoke shutdown account) = IsNumberIn environments environment
IsToOneOf environments (calls.ExtensionNext environment identifier) = IsNumberIn environments environment
IsToOneOf environments (calls.ExtensionInitError environment identifier) = IsNumberIn environments environment
IsToOneOf environments (calls.ExtensionExitError environment identifier) = IsNumberIn environments environment
IsToOneOf environments (calls.Subscribe environment stream) = IsNumberIn environments environment
IsToOneOf environments call = Unit {0}

-- and besides a record can hold its moment, and the text of an answer is within the settings' limit
abbrev pub Fits : Settings → List EnvState → Call → ℕ → Type 0
Fits s environments call now = IsToOneOf environments call × (now ≤ greatest_moment) × (length (text_of call) ≤ s.response)
