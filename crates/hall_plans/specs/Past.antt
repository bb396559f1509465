-- What a hall has done: the history, the calls that it made of its environments, and what became of the slots.
use Rattle.std.specs.Prelude.{ℕ, max, Bool, true, false, ◌==◌, List, [], map, filter, Option, find}
use Rattle.std.specs.List.{list_any, range_with_len}
use Rattle.retry_rules.specs.declared.settings.Settings.{Settings}
use Rattle.invoke_records.specs.declared.command.Command.{Command}
use Rattle.async_core.specs.History.{last_moment}
use Rattle.env_phase.specs.declared.call.EnvCall.{EnvCall}
use Rattle.env_phase.specs.Environment.{runs, is_ready}
use Rattle.api_core.specs.declared.call.Call.{Call}
use Rattle.api_core.specs.declared.call.Call.TheVariants as calls
use Rattle.api_core.specs.Replies.{Told}

-- ## The calls of a hall

-- a call that was not refused. A take is one that gave a reply. A commit, and a take that gave none, change nothing here
pub data HallCall : Type 0 where
  arrive : (slot : ℕ) (call : Call) (now : ℕ) (words : ℕ × ℕ) → HallCall
  tick : (now : ℕ) → HallCall
  take_slot : (slot : ℕ) → HallCall
  forget_slot : (slot : ℕ) → HallCall

-- ## What was done

-- what became of a slot: a request came with it, its reply was computed at this point, taken, or is not wanted any more
pub data SlotEvent : Type 0 where
  asked : (slot : ℕ) (call : Call) → SlotEvent
  replied : (slot : ℕ) (answer : Told) (point : ℕ) → SlotEvent
  taken : (slot : ℕ) → SlotEvent
  forgotten : (slot : ℕ) → SlotEvent

-- for how many extensions each environment waits, which every call keeps, and three lists, the oldest first, to which each
-- call appends: all commands, the calls of environments by their numbers, and what became of slots
pub record Past : Type 0 where
  pub wanted : ℕ
  pub history : List Command
  pub made : List (ℕ × EnvCall)
  pub slots : List SlotEvent

-- a hall that was opened on a history, before its first call, whose environments wait for so many extensions
abbrev pub opening : ℕ → List Command → Past
opening wanted history = record { wanted = wanted; history = history; made = []; slots = [] }

-- ## Environments

-- their numbers, from 1 on
abbrev pub environments : Settings → List ℕ
environments s = range_with_len 1 s.environments

-- the calls of one of them among these
abbrev pub calls_in : ℕ → List (ℕ × EnvCall) → List EnvCall
calls_in environment made = map (λ (m : ℕ × EnvCall). m.1) (filter (λ (m : ℕ × EnvCall). m.0 == environment) made)

-- the calls of one of them
unfoldable pub calls_of : Past → ℕ → List EnvCall
calls_of past environment = calls_in environment past.made

-- the environment in which an event runs, if one holds it
abbrev pub holder : Settings → Past → List ℕ → Option ℕ
holder s past id = find (λ environment. runs (calls_of past environment) id) (environments s)

-- the least-numbered environment that is ready
abbrev pub ready_in : Settings → Past → Option ℕ
ready_in s past = find (λ environment. is_ready past.wanted (calls_of past environment)) (environments s)

-- ## Stopping and time

abbrev pub call_stops : Call → Bool
call_stops calls.StopBroker = true
call_stops call = false

abbrev pub asks_stop : SlotEvent → Bool
asks_stop (asked slot call) = call_stops call
asks_stop event = false

-- the broker was asked to stop
abbrev pub is_stopping : Past → Bool
is_stopping past = list_any asks_stop past.slots

-- the moment of a call: it is not earlier than that of the last command
abbrev pub moment : Past → ℕ → ℕ
moment past now = max now (last_moment past.history)
