-- Words of the public laws.
use Rattle.std.specs.Prelude.{◌≡◌, ◌==◌, ℕ, Bool, true, false, List, [], ◌∷◌, Option, Some, None, is_some, option_map}
use Rattle.std.specs.List.{list_any}
use Rattle.retry_rules.specs.declared.settings.Settings.{Settings}
use Rattle.invoke_records.specs.declared.command.Command.{Command}
use Rattle.invoke_records.specs.declared.command.Kind.TheVariants.{Interrupt}
use Rattle.async_core.specs.declared.choice.Move.{Move}
use Rattle.async_core.specs.Standings.{is_running}
use Rattle.async_core.specs.History.{standing_in, refusal_of, IsLegal}
use Rattle.async_core.specs.Choice.{IsNextMove, command_of_move}
use Rattle.env_phase.specs.declared.call.EnvCall.{EnvCall}
use Rattle.env_phase.specs.Environment.{running}
use Rattle.env_phase.specs.Polls.{refusal_of as env_refusal_of}
use Rattle.hall_plans.specs.Past.{HallCall, arrive, tick, take_slot, forget_slot, Past, opening, calls_of, moment}
use Rattle.hall_plans.specs.Firsts.{Event, first_unheld, first_moving}
use Rattle.hall_plans.specs.Effects.{Scene, command_for, moves, effect_of, command_of}
use Rattle.hall_plans.specs.Run.{own_event, polls_answered, past_after}
use Rattle.hall_plans.specs.Slots.{Reply, asks, reply_of}
use Rattle.hall_plans.specs.Agreement.{IsUnrefused, IsRun, AllAgree, IsKept, IsUnheld}

-- ## Calls and runs

-- the call is not refused, after calls that keep what every call keeps
abbrev pub IsMade : Settings → Past → HallCall → Type 0
IsMade s past call = IsKept s past × IsUnrefused s past call

abbrev pub AreMade : Settings → Past → List HallCall → Type 0
AreMade s past run = IsKept s past × IsRun s past run

-- a run that begins on a legal history
abbrev pub IsRunFrom : Settings → ℕ → List Command → List HallCall → Type 0
IsRunFrom s wanted opened run = IsLegal s opened × IsRun s (opening wanted opened) run

-- ## Moves

-- the table answers this move, where this environment is ready
abbrev pub TableAnswers : Scene → Option ℕ → Option Move → Type 0
TableAnswers x ready answered = IsNextMove x.settings x.past.history x.now ready answered

-- the command of the event that moves next
abbrev pub next_command : Scene → Option ℕ → Option Command
next_command x ready = (moves x ready (first_moving x.settings x.past.history x.now (is_some ready))).command

-- the command of a move
abbrev pub move_command : Scene → Option Move → Option Command
move_command x move = option_map (command_of_move x.now) move

-- ## Replies

-- a request comes with this slot
abbrev pub comes_with : ℕ → HallCall → Bool
comes_with slot call = list_any (asks slot) (own_event call)

-- a reply to the slot that was computed is there after the call too
abbrev pub ReplyStays : Settings → Past → HallCall → ℕ → Type 0
ReplyStays s past call slot =
    (reply : Reply) → reply_of past slot ≡ Some reply → reply_of (past_after s past call) slot ≡ Some reply

-- a call of this slot: a request that comes with it, its taking or its forgetting
abbrev pub names : ℕ → HallCall → Bool
names slot (arrive other call now words) = slot == other
names slot (tick now) = false
names slot (take_slot other) = slot == other
names slot (forget_slot other) = slot == other

-- the call is none of this slot, and answers no poll that came with it
abbrev pub LeavesAlone : Settings → Past → HallCall → ℕ → Type 0
LeavesAlone s past call slot =
    (names slot call ≡ false) × (list_any (λ other. slot == other) (polls_answered s past call) ≡ false)

-- ## What runs

-- an event runs in one environment at most
abbrev pub RunsInOne : (ℕ → List EnvCall) → Type 0
RunsInOne calls = (a b : ℕ) (id : List ℕ) → running (calls a) ≡ Some id → running (calls b) ≡ Some id → a ≡ b

-- what runs by the history runs in an environment
abbrev pub AllRunSomewhere : Settings → Past → Type 0
AllRunSomewhere s past =
    (id : List ℕ) → is_running (standing_in s past.history id) ≡ true
    → (environment : ℕ) × (running (calls_of past environment) ≡ Some id)

-- ## What a call does

-- its command is legal
abbrev pub CommandIsLegal : Settings → Past → HallCall → Type 0
CommandIsLegal s past call = (c : Command) → command_of s past call ≡ Some c → refusal_of s past.history c ≡ None

-- the environment that it calls accepts the call
abbrev pub CallIsAccepted : Settings → Past → HallCall → Type 0
CallIsAccepted s past call =
    (environment : ℕ) (c : EnvCall) → (effect_of s past call).made ≡ (environment, c) ∷ []
    → env_refusal_of past.wanted (calls_of past environment) c ≡ None

-- ## Interrupts

-- there is nothing to interrupt in environments that agree with the history
abbrev pub NoneUnheld : Settings → Past → Type 0
NoneUnheld s past = AllAgree s past.wanted past.history (calls_of past) × (first_unheld s past ≡ None)

-- a tick interrupts the first event that no environment holds, if there is one
abbrev pub InterruptsFirst : Settings → Past → ℕ → Type 0
InterruptsFirst s past now =
    (event : Event) → first_unheld s past ≡ Some event
    → command_of s past (tick now) ≡ Some (command_for Interrupt event.1 (moment past now) [])

-- an Interrupt is for an event that no environment holds
abbrev pub InterruptsUnheld : Settings → Past → HallCall → Type 0
InterruptsUnheld s past call =
    (c : Command) → command_of s past call ≡ Some c → c.kind ≡ Interrupt → IsUnheld s past c.id

-- an event that no environment holds later was so before
abbrev pub LeavesNone : Settings → Past → Past → Type 0
LeavesNone s past later = (id : List ℕ) → IsUnheld s later id → IsUnheld s past id
