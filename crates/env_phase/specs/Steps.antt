-- Words for the steps of the body, which keeps what the calls left: what one call more changes in it.
use Rattle.std.specs.Prelude.{ℕ, Bool, false, not, ◌&&◌, ◌||◌, List, [], ◌∷◌, ◌++◌, map, filter_map, Option, Some, None, is_some, is_none, cond, length, nat_le}
use Rattle.std.specs.List.{list_all}
use Rattle.std.specs.Option.{option_or}
use Rattle.env_phase.specs.declared.answer.PollAnswer.{PollAnswer}
use Rattle.env_phase.specs.declared.refusal.Refusal.{Refusal}
use Rattle.env_phase.specs.declared.refusal.Refusal.TheVariants as refusal
use Rattle.env_phase.specs.declared.call.Party.{Party}
use Rattle.env_phase.specs.declared.call.Waiter.{Waiter}
use Rattle.env_phase.specs.declared.call.EnvCall.{EnvCall}
use Rattle.env_phase.specs.Calls.{is_reset, is_shutdown, clears, runtime, registration, has_identifier, is_known, slot_by, releases, given_by, ends_event}
use Rattle.env_phase.specs.Environment.{Phase, phase_by, phase_is_init, phase_is_ready, phase_is_busy, phase_is_closing}
use Rattle.env_phase.specs.Polls.{first_failed, checks, answered}
use Rattle.env_phase.specs.State.{EnvState}

abbrev pub is_parked_at : Waiter → Bool
is_parked_at waiter = is_some waiter.slot

abbrev pub has_enough_in : EnvState → Bool
has_enough_in e = nat_le e.wanted (length e.extensions)

abbrev pub is_met_in : EnvState → Bool
is_met_in e = is_none e.event && has_enough_in e && (is_some e.runtime_slot && list_all is_parked_at e.extensions)

abbrev pub phase_in : EnvState → Phase
phase_in e = phase_by e.is_shut (is_met_in e) e.has_met

abbrev pub party_at : Waiter → Party
party_at waiter = waiter.party

abbrev pub has_party : List ℕ → Waiter → Bool
has_party identifier waiter = has_identifier identifier waiter.party.identifier

-- why a call is refused, if it is
abbrev pub refusal_in : EnvState → EnvCall → Option Refusal
refusal_in e call = first_failed (checks (phase_in e) e.event (map party_at e.extensions) call)

-- the runtime and the slot on which it is parked
abbrev pub runtime_in : EnvState → Waiter
runtime_in e = record { party = runtime; slot = e.runtime_slot }

-- the polls that a call answers
abbrev pub answered_in : EnvState → EnvCall → List (ℕ × PollAnswer)
answered_in e call = filter_map (answered call) (runtime_in e ∷ e.extensions)

-- the slot on which a party is parked after a call
abbrev pub slot_after : EnvCall → Party → Option ℕ → Option ℕ
slot_after call party slot = cond (releases party call) None (option_or (slot_by party.identifier call) slot)

abbrev pub waiter_after : EnvCall → Waiter → Waiter
waiter_after call waiter = record waiter { slot = slot_after call waiter.party waiter.slot }

abbrev pub event_after : EnvCall → Option (List ℕ) → Option (List ℕ)
event_after call event = cond (ends_event call) None (option_or (given_by call) event)

-- who registers by a call, not parked yet
abbrev pub joined : Option Party → List Waiter
joined None = []
joined (Some party) = record { party = party; slot = None } ∷ []

abbrev pub extensions_after : EnvCall → List Waiter → List Waiter
extensions_after call extensions = map (waiter_after call) (cond (clears call) [] (extensions ++ joined (registration call)))

-- what a call changes, but whether the era was met
abbrev pub moved : EnvState → EnvCall → EnvState
moved e call = record e {
  is_shut = e.is_shut || is_shutdown call;
  event = event_after call e.event;
  runtime_slot = slot_after call runtime e.runtime_slot;
  extensions = extensions_after call e.extensions;
}

abbrev pub has_met_after : EnvCall → EnvState → Bool
has_met_after call e = cond (is_reset call) false (e.has_met || is_met_in e)

-- what a call leaves
abbrev pub state_after : EnvState → EnvCall → EnvState
state_after e call = record (moved e call) { has_met = has_met_after call (moved e call) }

abbrev pub is_init_in : EnvState → Bool
is_init_in e = phase_is_init (phase_in e)

abbrev pub is_ready_in : EnvState → Bool
is_ready_in e = phase_is_ready (phase_in e)

abbrev pub is_busy_in : EnvState → Bool
is_busy_in e = phase_is_busy (phase_in e)

abbrev pub is_closing_in : EnvState → Bool
is_closing_in e = phase_is_closing (phase_in e)

-- the phase is wrong for a call
abbrev pub wrong_phase : Bool → Option Refusal
wrong_phase wrong = first_failed ((wrong, refusal.WrongPhase) ∷ [])

abbrev pub registration_refusal : EnvState → List ℕ → Option Refusal
registration_refusal e identifier =
    first_failed (
    (not (is_init_in e), refusal.RegistrationClosed)
    ∷ (nat_le 10 (length (map party_at e.extensions)), refusal.TooManyExtensions)
    ∷ (is_known identifier (map party_at e.extensions), refusal.InUse)
    ∷ []
    )

-- why an extension's call is refused, where its phase is wrong or not
abbrev pub extension_refusal : EnvState → List ℕ → Bool → Option Refusal
extension_refusal e identifier wrong =
    first_failed ((not (is_known identifier (map party_at e.extensions)), refusal.UnknownExtension) ∷ (wrong, refusal.WrongPhase) ∷ [])
