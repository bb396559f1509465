-- What every run keeps: each command is legal, each environment accepted its calls, and it runs what the history says.
use Rattle.std.specs.Prelude.{◌≡◌, ℕ, ◌<◌, ◌≤◌, false, length, Bool, true, ◌&&◌, List, [], ◌∷◌, ◌++◌, Option, Some, None, is_none, IsTrue}
use Rattle.std.specs.List.{list_all, list_any}
use Rattle.retry_rules.specs.declared.settings.Settings.{Settings}
use Rattle.invoke_records.specs.declared.command.Command.{Command}
use Rattle.invoke_records.specs.declared.row.Standing.TheVariants as standing
use Rattle.invoke_records.specs.Spelling.{greatest_moment}
use Rattle.async_core.specs.Standings.{is_running, runs_in}
use Rattle.async_core.specs.History.{standing_in, refusal_of, IsLegal}
use Rattle.env_phase.specs.declared.call.EnvCall.{EnvCall}
use Rattle.env_phase.specs.Calls.{is_shutdown}
use Rattle.env_phase.specs.Environment.{running, deadline_of}
use Rattle.env_phase.specs.Polls.{refusal_of as env_refusal_of, IsLegal as IsAccepted}
use Rattle.api_core.specs.declared.call.Call.{Call}
use Rattle.api_core.specs.declared.call.Call.TheVariants as calls
use Rattle.hall_plans.specs.Past.{HallCall, arrive, tick, Past, environments, calls_of, holder, is_stopping}
use Rattle.hall_plans.specs.Run.{past_after}
use Rattle.hall_plans.specs.Refusals.{why_refused}

-- ## Which runs

-- the text of an answer
abbrev pub text_of : Call → List ℕ
text_of (calls.Response environment id body) = body
text_of (calls.RuntimeError environment id body) = body
text_of call = []

-- the conditions of a call on which legal commands rest: a record can hold its moment, and the text of an answer is within
-- the settings' limit (the hall asks more of a call, such as a slot that is not open)
abbrev pub IsFit : Settings → HallCall → Type 0
IsFit s (arrive slot call now words) = (now ≤ greatest_moment) × (length (text_of call) ≤ s.response)
IsFit s (tick now) = now ≤ greatest_moment
IsFit s call = Unit {0}

-- a call that is made within its conditions and is not refused, by a hall in some state of its device
pub record IsUnrefused (s : Settings) (past : Past) (call : HallCall) : Type 0 where
  pub fit : IsFit s call
  pub broken : Bool
  pub durable : ℕ
  pub unrefused : why_refused broken durable s past call ≡ None

-- each call is made so after those before it
abbrev pub IsRun : Settings → Past → List HallCall → Type 0
IsRun s past [] = Unit {0}
IsRun s past (call ∷ run) = IsUnrefused s past call × IsRun s (past_after s past call) run

-- ## What they keep

-- the history is legal, and in each environment the calls were accepted and what runs there runs by the history too
pub record IsSound (s : Settings) (past : Past) : Type 0 where
  pub legal : IsLegal s past.history
  pub accepted : (environment : ℕ) → IsAccepted past.wanted (calls_of past environment)
  pub runs : (environment : ℕ) (id : List ℕ) → running (calls_of past environment) ≡ Some id
      → IsTrue (runs_in environment (standing_in s past.history id))

-- ## With what the induction needs besides

-- an environment of the settings
abbrev pub IsOne : Settings → ℕ → Type 0
IsOne s environment = (0 < environment) × (environment ≤ s.environments)

-- an event that an environment runs by these calls runs there by the history too, until the deadline that it was given with
pub record RunsThere (s : Settings) (h : List Command) (environment : ℕ) (calls : List EnvCall) (id : List ℕ) : Type 0 where
  pub deadline : ℕ
  pub given : deadline_of calls ≡ Some deadline
  pub stands : standing_in s h id ≡ standing.Running environment deadline
  pub one : IsOne s environment

-- an environment that waits for so many extensions accepted these calls, and what it runs runs there by the history
pub record Agrees (s : Settings) (wanted : ℕ) (h : List Command) (environment : ℕ) (calls : List EnvCall) : Type 0 where
  pub accepted : IsAccepted wanted calls
  pub runs : (id : List ℕ) → running calls ≡ Some id → RunsThere s h environment calls id

-- the history is legal, and each environment agrees with it
pub record AllAgree (s : Settings) (wanted : ℕ) (h : List Command) (calls : ℕ → List EnvCall) : Type 0 where
  pub legal : IsLegal s h
  pub each : (environment : ℕ) → Agrees s wanted h environment (calls environment)

-- what every call keeps: all environments agree with the history, and until the stop none of them is shut down
pub record IsKept (s : Settings) (past : Past) : Type 0 where
  pub all : AllAgree s past.wanted past.history (calls_of past)
  pub unshut : is_stopping past ≡ false → (environment : ℕ) → list_any is_shutdown (calls_of past environment) ≡ false

-- ## What interrupts are for

-- an event runs by the history, and no environment holds it
pub record IsUnheld (s : Settings) (past : Past) (id : List ℕ) : Type 0 where
  pub stands : is_running (standing_in s past.history id) ≡ true
  pub alone : holder s past id ≡ None

-- ## The same, computed

abbrev pub legal_after : Settings → List Command → List Command → Bool
legal_after s before [] = true
legal_after s before (c ∷ later) = is_none (refusal_of s before c) && legal_after s (before ++ c ∷ []) later

abbrev pub accepted_after : ℕ → List EnvCall → List EnvCall → Bool
accepted_after wanted before [] = true
accepted_after wanted before (call ∷ later) =
    is_none (env_refusal_of wanted before call) && accepted_after wanted (before ++ call ∷ []) later

abbrev pub runs_if_any : Settings → List Command → ℕ → Option (List ℕ) → Bool
runs_if_any s history environment None = true
runs_if_any s history environment (Some id) = runs_in environment (standing_in s history id)

abbrev pub agrees : Settings → Past → ℕ → Bool
agrees s past environment =
    accepted_after past.wanted [] (calls_of past environment)
    && runs_if_any s past.history environment (running (calls_of past environment))

abbrev pub is_sound : Settings → Past → Bool
is_sound s past = legal_after s [] past.history && list_all (agrees s past) (environments s)
