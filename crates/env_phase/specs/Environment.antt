-- What the calls of one environment say of it. The list is of all the calls that it accepted, the oldest first. In each era
-- it waits for so many extensions, `wanted`, before it can be given an event.
use Rattle.std.specs.Prelude.{ℕ, Bool, true, false, ◌&&◌, List, [], ◌∷◌, map, filter_map, length, nat_le, Option, None, is_some, is_none, if◌then◌else◌, IsTrue}
use Rattle.std.specs.List.{after_last, last_or, list_any, list_all}
use Rattle.env_phase.specs.declared.call.Party.{Party}
use Rattle.env_phase.specs.declared.call.EnvCall.{EnvCall}
use Rattle.env_phase.specs.Calls.{is_reset, is_shutdown, clears, runtime, registration, has_identifier, is_known, slot_by, releases, given_by, ends_event, deadline_by}

-- the era: what follows the last reset
unfoldable pub era : List EnvCall → List EnvCall
era calls = after_last is_reset calls

-- ## Parties

-- the extensions that registered since the last reset or shutdown, in that order
unfoldable pub registered : List EnvCall → List Party
registered calls = filter_map registration (after_last clears calls)

-- whether this extension is registered
abbrev pub knows : List EnvCall → List ℕ → Bool
knows calls identifier = is_known identifier (registered calls)

-- the runtime, then the extensions
abbrev pub parties : List EnvCall → List Party
parties calls = runtime ∷ registered calls

-- the slot on which a party is parked: that of its last Next which nothing released
unfoldable pub slot_of : List EnvCall → Party → Option ℕ
slot_of calls party = last_or None (filter_map (slot_by party.identifier) (after_last (releases party) calls))

abbrev pub is_parked : List EnvCall → Party → Bool
is_parked calls party = is_some (slot_of calls party)

-- ## Events

-- the event that was given and is not answered
unfoldable pub unanswered : List EnvCall → Option (List ℕ)
unanswered calls = last_or None (filter_map given_by (after_last ends_event calls))

-- the event that runs in the environment
abbrev pub running : List EnvCall → Option (List ℕ)
running calls = unanswered calls

-- the deadline that came with the event that was given last
unfoldable pub deadline_of : List EnvCall → Option ℕ
deadline_of calls = last_or None (filter_map deadline_by calls)

-- whether it is this one
abbrev pub runs : List EnvCall → List ℕ → Bool
runs calls id = has_identifier id (running calls)

-- ## Phases

-- as many extensions are registered as are waited for, or more
abbrev pub has_enough : ℕ → List EnvCall → Bool
has_enough wanted calls = nat_le wanted (length (registered calls))

-- the calls are met: no event is unanswered, enough are registered, and the runtime and all that are registered are parked
unfoldable pub is_met : ℕ → List EnvCall → Bool
is_met wanted calls = is_none (unanswered calls) && has_enough wanted calls && list_all (is_parked calls) (parties calls)

-- every prefix of a list, the empty one first
abbrev pub prefixes : {A : Type 0} → List A → List (List A)
prefixes [] = [] ∷ []
prefixes (x ∷ xs) = [] ∷ map (λ rest. x ∷ rest) (prefixes xs)

-- the era was met: a prefix of it was
abbrev pub was_met : ℕ → List EnvCall → Bool
was_met wanted calls = list_any (is_met wanted) (prefixes (era calls))

pub data Phase : Type 0 where
  init : Phase
  ready : Phase
  busy : Phase
  closing : Phase

-- closing where it was shut down, else ready where it is met, busy where it was met, and else in init
abbrev pub phase_by : (was_shut_down is_met_now was_met_before : Bool) → Phase
phase_by shut met before = if shut then closing else if met then ready else if before then busy else init

-- closing from the first shutdown on; a reset begins a new era
unfoldable pub phase_of : ℕ → List EnvCall → Phase
phase_of wanted calls = phase_by (list_any is_shutdown calls) (is_met wanted (era calls)) (was_met wanted calls)

abbrev pub phase_is_init : Phase → Bool
phase_is_init init = true
phase_is_init phase = false

abbrev pub phase_is_ready : Phase → Bool
phase_is_ready ready = true
phase_is_ready phase = false

abbrev pub phase_is_busy : Phase → Bool
phase_is_busy busy = true
phase_is_busy phase = false

abbrev pub phase_is_closing : Phase → Bool
phase_is_closing closing = true
phase_is_closing phase = false

abbrev pub is_ready : ℕ → List EnvCall → Bool
is_ready wanted calls = phase_is_ready (phase_of wanted calls)

-- an event can be given
abbrev pub IsReady : ℕ → List EnvCall → Type 0
IsReady wanted calls = IsTrue (is_ready wanted calls)
