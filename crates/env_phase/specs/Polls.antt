-- Why an environment refuses a call, and which polls a call that it accepts answers.
use Rattle.std.specs.Prelude.{◌≡◌, ℕ, ◌+◌, ◌<◌, Bool, true, false, not, ◌&&◌, ◌||◌, List, [], ◌∷◌, length, map, take, filter_map, slice_get, Option, Some, None, is_some, is_none, if◌then◌else◌, nat_le}
use Rattle.std.specs.List.{list_any}
use Rattle.std.specs.Option.{option_zip}
use Rattle.env_phase.specs.declared.answer.Reason.{Reason}
use Rattle.env_phase.specs.declared.answer.Reason.TheVariants as reason
use Rattle.env_phase.specs.declared.answer.PollAnswer.{PollAnswer}
use Rattle.env_phase.specs.declared.answer.PollAnswer.TheVariants as told
use Rattle.env_phase.specs.declared.refusal.Refusal.{Refusal}
use Rattle.env_phase.specs.declared.refusal.Refusal.TheVariants as refusal
use Rattle.env_phase.specs.declared.call.Party.{Party}
use Rattle.env_phase.specs.declared.call.Waiter.{Waiter}
use Rattle.env_phase.specs.declared.call.EnvCall.{EnvCall}
use Rattle.env_phase.specs.declared.call.EnvCall.TheVariants.{RuntimeNext, Register, ExtensionNext, Give, Answer, InitError, ExtensionError, Timeout, Shutdown}
use Rattle.env_phase.specs.Calls.{is_shutdown, has_identifier, is_known, slot_by}
use Rattle.env_phase.specs.Environment.{Phase, phase_is_init, phase_is_ready, phase_is_busy, phase_is_closing, phase_of, registered, parties, slot_of, unanswered}

-- ## Refusals

-- the first check that fails
abbrev pub first_failed : List (Bool × Refusal) → Option Refusal
first_failed [] = None
first_failed (check ∷ checks) = if check.0 then Some check.1 else first_failed checks

-- the checks of a call in their order, by the phase, the event that runs and the extensions that are registered
abbrev pub checks : Phase → Option (List ℕ) → List Party → EnvCall → List (Bool × Refusal)
checks phase event extensions (RuntimeNext slot) = (phase_is_closing phase || is_some event, refusal.WrongPhase) ∷ []
checks phase event extensions (Register identifier events end) =
    (not (phase_is_init phase), refusal.RegistrationClosed)
    ∷ (nat_le 10 (length extensions), refusal.TooManyExtensions)
    ∷ (is_known identifier extensions, refusal.InUse)
    ∷ []
checks phase event extensions (ExtensionNext identifier slot) =
    (not (is_known identifier extensions), refusal.UnknownExtension) ∷ (phase_is_closing phase, refusal.WrongPhase) ∷ []
checks phase event extensions (Give id deadline) = (not (phase_is_ready phase), refusal.WrongPhase) ∷ []
checks phase event extensions (Answer id) =
    (not (phase_is_busy phase && has_identifier id event), refusal.WrongPhase) ∷ []
checks phase event extensions (InitError now) = (not (phase_is_init phase), refusal.WrongPhase) ∷ []
checks phase event extensions (ExtensionError identifier true now) =
    (not (is_known identifier extensions), refusal.UnknownExtension) ∷ (not (phase_is_init phase), refusal.WrongPhase) ∷ []
checks phase event extensions (ExtensionError identifier false now) =
    (not (is_known identifier extensions), refusal.UnknownExtension) ∷ (phase_is_closing phase, refusal.WrongPhase) ∷ []
checks phase event extensions (Timeout now) = (phase_is_closing phase || is_none event, refusal.WrongPhase) ∷ []
checks phase event extensions (Shutdown now) = []

-- why a call is refused after these calls, if it is, where so many extensions are waited for
unfoldable pub refusal_of : ℕ → List EnvCall → EnvCall → Option Refusal
refusal_of wanted calls call = first_failed (checks (phase_of wanted calls) (unanswered calls) (registered calls) call)

-- each call was accepted after those before it
pub record IsLegal (wanted : ℕ) (calls : List EnvCall) : Type 0 where
  pub each : (n : ℕ) (call : EnvCall) → slice_get calls n ≡ Some call → refusal_of wanted (take n calls) call ≡ None

-- the calls were accepted, none of them is a shutdown, and this event runs
abbrev pub RunsOpen : ℕ → List EnvCall → List ℕ → Type 0
RunsOpen wanted calls id = IsLegal wanted calls × (list_any is_shutdown calls ≡ false) × (unanswered calls ≡ Some id)

-- the calls were accepted, none of them is a shutdown, and fewer extensions are registered than are waited for
abbrev pub IsWaiting : ℕ → List EnvCall → Type 0
IsWaiting wanted calls = IsLegal wanted calls × (list_any is_shutdown calls ≡ false) × (length (registered calls) < wanted)

-- ## Answers to polls

-- what a party is told of an event
abbrev pub event_for : Option (List ℕ) → List ℕ → ℕ → PollAnswer
event_for None id deadline = told.RuntimeEvent id deadline
event_for (Some identifier) id deadline = told.Invoke id deadline

-- what a party is told at the end of its environment, two seconds before it is over
abbrev pub end_for : Party → Reason → ℕ → PollAnswer
end_for party why now = if party.gets_shutdown then told.Shutdown why (now + 2000) else told.Reset

abbrev pub replaced_by : Option ℕ → Option PollAnswer
replaced_by None = None
replaced_by (Some slot) = Some told.Replaced

-- what a call tells a party that is parked
abbrev pub told_by : EnvCall → Party → Option PollAnswer
told_by (RuntimeNext slot) party = replaced_by (slot_by party.identifier (RuntimeNext slot))
told_by (Register identifier events end) party = None
told_by (ExtensionNext identifier slot) party = replaced_by (slot_by party.identifier (ExtensionNext identifier slot))
told_by (Give id deadline) party = if party.gets_events then Some (event_for party.identifier id deadline) else None
told_by (Answer id) party = None
told_by (InitError now) party = Some (end_for party reason.Failure now)
told_by (ExtensionError identifier in_init now) party = Some (end_for party reason.Failure now)
told_by (Timeout now) party = Some (end_for party reason.Timeout now)
told_by (Shutdown now) party = Some (end_for party reason.Spindown now)

-- a party and the slot on which it is parked
abbrev pub waiter_of : List EnvCall → Party → Waiter
waiter_of calls party = record { party = party; slot = slot_of calls party }

-- the poll of a party that a call answers, if it is parked and the call tells it something
abbrev pub answered : EnvCall → Waiter → Option (ℕ × PollAnswer)
answered call waiter = option_zip waiter.slot (told_by call waiter.party)

-- the polls that a call answers, by their slots: the runtime's, then the extensions' in the order of registration
unfoldable pub answered_by : List EnvCall → EnvCall → List (ℕ × PollAnswer)
answered_by calls call = filter_map (answered call) (map (waiter_of calls) (parties calls))
