-- Worked examples: runs of a hall.
use Rattle.std.specs.Prelude.{ℕ, ◌+◌, true, false, List, [], ◌∷◌, ◌++◌, replicate, Option, Some, None}
use Rattle.retry_rules.specs.declared.settings.Settings.{Settings}
use Rattle.invoke_records.specs.declared.command.Command.{Command}
use Rattle.invoke_records.specs.declared.command.Kind.{Kind}
use Rattle.invoke_records.specs.declared.command.Kind.TheVariants.{Start, Succeed, Fail, Throttle, Interrupt, Expire, Collect}
use Rattle.invoke_records.specs.declared.command.Cause.TheVariants.{Timeout}
use Rattle.invoke_records.specs.declared.row.Outcome.TheVariants.{RetriesExhausted}
use Rattle.invoke_records.specs.declared.row.Answer.TheVariants as records
use Rattle.async_core.specs.declared.choice.Side.TheVariants as side
use Rattle.async_core.specs.Examples.{usual, no_retries, for_two_events, id, accept, start, does}
use Rattle.api_core.specs.declared.dialect.Audience.TheVariants.{Caller, Environment}
use Rattle.api_core.specs.declared.call.Call.{Call}
use Rattle.api_core.specs.declared.call.Call.TheVariants as calls
use Rattle.api_core.specs.declared.refusal.Refusal.{Refusal}
use Rattle.api_core.specs.declared.answer.ShutdownReason.{ShutdownReason}
use Rattle.api_core.specs.Replies.{Told}
use Rattle.api_core.specs.Replies as reply
use Rattle.hall_plans.specs.Past.{HallCall, arrive, tick, take_slot, Past, opening}
use Rattle.hall_plans.specs.declared.issued.Issued.{Issued}
use Rattle.hall_plans.specs.Run.{past_of, history_of}
use Rattle.hall_plans.specs.Slots.{Reply, reply_of}

-- ## Requests

-- 2019-11-14T18:16:05.568Z
abbrev pub t : ℕ
t = 1573755365568

-- the payload `{}`
abbrev pub braces : List ℕ
braces = 123 ∷ 125 ∷ []

-- the same behind a space
abbrev pub longer : List ℕ
longer = 32 ∷ braces

-- a request with this slot at this moment, whose random words give the n-th id
abbrev pub asks : ℕ → ℕ → ℕ → Call → HallCall
asks slot now n call = arrive slot call now (0, n)

-- an invocation that is to be the n-th event
abbrev pub invokes : ℕ → ℕ → ℕ → HallCall
invokes slot now n = asks slot now n (calls.Invoke braces)

abbrev pub runtime_asks : ℕ → ℕ → HallCall
runtime_asks slot now = asks slot now 0 (calls.RuntimeNext 1)

abbrev pub responds : ℕ → ℕ → ℕ → List ℕ → HallCall
responds slot now n body = asks slot now 0 (calls.Response 1 (Some (id n)) body)

-- a response to an id that cannot be read
abbrev pub responds_unreadably : ℕ → HallCall
responds_unreadably slot = asks slot t 0 (calls.Response 1 None braces)

abbrev pub reports : ℕ → ℕ → ℕ → List ℕ → HallCall
reports slot now n body = asks slot now 0 (calls.RuntimeError 1 (Some (id n)) body)

abbrev pub init_fails : ℕ → HallCall
init_fails slot = asks slot t 0 (calls.RuntimeInitError 1)

abbrev pub deletes : ℕ → ℕ → ℕ → HallCall
deletes slot now n = asks slot now 0 (calls.Delete (Some (id n)))

abbrev pub failure_asked : ℕ → HallCall
failure_asked slot = asks slot t 0 (calls.Oldest side.Failure)

abbrev pub success_asked : ℕ → HallCall
success_asked slot = asks slot t 0 (calls.Oldest side.Success)

-- an extension registers on the slot that is its id's last byte
abbrev pub registers : ℕ → HallCall
registers n = asks n t n (calls.Register 1 [] true true false)

-- an extension registers, and the 21st id is drawn
abbrev pub draws_21 : ℕ → HallCall
draws_21 slot = asks slot t 21 (calls.Register 1 [] true true false)

abbrev pub extension_asks : ℕ → ℕ → HallCall
extension_asks slot n = asks slot t 0 (calls.ExtensionNext 1 (id n))

-- the extension of the 21st id exits
abbrev pub exits : ℕ → ℕ → HallCall
exits slot now = asks slot now 0 (calls.ExtensionExitError 1 (id 21))

abbrev pub stops : ℕ → ℕ → HallCall
stops slot now = asks slot now 0 calls.StopBroker

-- ## What a run of a new hall makes

abbrev pub done : List HallCall → Past
done run = past_of usual 0 [] run

abbrev pub makes : List HallCall → List Command
makes run = history_of usual 0 [] run

abbrev pub reply_in : List HallCall → ℕ → Option Reply
reply_in run slot = reply_of (done run) slot

-- ## Replies with their points

abbrev pub refused_at : Refusal → ℕ → Option Reply
refused_at why point = Some (reply.refused Environment why, point)

abbrev pub caller_refused_at : Refusal → ℕ → Option Reply
caller_refused_at why point = Some (reply.refused Caller why, point)

abbrev pub taken_at : ℕ → Option Reply
taken_at point = Some (reply.taken, point)

abbrev pub accepted_at : ℕ → ℕ → Option Reply
accepted_at n point = Some (reply.accepted (id n), point)

abbrev pub registered_at : ℕ → ℕ → Option Reply
registered_at n point = Some (reply.registered (id n) false, point)

abbrev pub ends_at : ShutdownReason → ℕ → ℕ → Option Reply
ends_at why deadline point = Some (reply.shutdown_event why deadline, point)

-- the record of event 1, which failed
abbrev pub first_failure : Told
first_failure =
    reply.record_of (record { id = id 1; payload = braces; answer = records.Error braces; outcome = RetriesExhausted; at = t; starts = 1 })

-- ## Commands

-- with the text `{}`
abbrev pub tells : Kind → ℕ → ℕ → Command
tells kind n now = record (does kind n now) { bytes = braces }

abbrev pub starts_at : ℕ → List Command
starts_at now = accept 1 now ∷ start 1 now ∷ []

abbrev pub timed_out : ℕ → ℕ → List Command
timed_out from now = starts_at from ++ does (Fail Timeout) 1 now ∷ []

abbrev pub second_is_start : Issued
second_is_start = record { number = 2; kind = Start; id = id 1; time = t }

-- ## One event

-- event 1 is accepted on slot 1, the runtime polls on slot 2, and an attempt starts: commands 1 and 2
abbrev pub one_runs : ℕ → List HallCall
one_runs now = invokes 1 now 1 ∷ runtime_asks 2 now ∷ tick now ∷ []

abbrev pub one_answered : List HallCall
one_answered = one_runs t ++ responds 3 t 1 braces ∷ []

-- with no retries event 1 fails
abbrev pub one_fails : List HallCall
one_fails = one_runs t ++ reports 3 t 1 braces ∷ []

abbrev pub once_failed : List HallCall → Past
once_failed later = past_of no_retries 0 [] (one_fails ++ later)

-- answers of at most 2 bytes
abbrev pub short_answers : Settings
short_answers = record usual { response = 2 }

-- event 1 comes, and the runtime asks
abbrev pub comes_and_waits : List HallCall
comes_and_waits = invokes 1 1000 1 ∷ runtime_asks 2 1000 ∷ []

-- and then an extension registers
abbrev pub one_registers : List HallCall
one_registers = comes_and_waits ++ asks 3 1000 21 (calls.Register 1 [] true false false) ∷ []

-- and asks
abbrev pub one_has_asked : List HallCall
one_has_asked = one_registers ++ asks 4 1000 0 (calls.ExtensionNext 1 (id 21)) ∷ []

-- what a hall has done whose environments wait for an extension
abbrev pub awaits : List HallCall → Past
awaits run = past_of usual 1 [] run

-- the runtime asks, after a stop that cut an attempt off
abbrev pub asked_and_ticked : List HallCall
asked_and_ticked = runtime_asks 1 5000 ∷ tick 5000 ∷ []

-- ## Two events

-- two events fill the table, and a third is refused
abbrev pub three_come : List HallCall
three_come = invokes 1 t 1 ∷ invokes 2 t 2 ∷ invokes 3 t 3 ∷ []

-- the first one runs and is answered, and a fourth comes
abbrev pub first_is_answered : List HallCall
first_is_answered = three_come ++ runtime_asks 4 t ∷ tick t ∷ responds 5 t 1 braces ∷ invokes 7 t 4 ∷ []

-- the first one runs, is answered, collected, and accepted anew
abbrev pub first_comes_again : List HallCall
first_comes_again =
    three_come ++ runtime_asks 4 t ∷ tick t ∷ responds 5 t 1 braces ∷ deletes 6 t 1 ∷ invokes 7 t 1 ∷ []

abbrev pub first_anew_history : List Command
first_anew_history = accept 1 t ∷ accept 2 t ∷ start 1 t ∷ tells Succeed 1 t ∷ does Collect 1 t ∷ accept 1 t ∷ []

abbrev pub anew_and_asked : List HallCall
anew_and_asked = first_comes_again ++ runtime_asks 8 t ∷ []

abbrev pub for_two : List HallCall → Past
for_two run = past_of for_two_events 0 [] run

-- one attempt at a time, which may take a quarter of an hour, and events that expire after a minute
abbrev pub one_at_a_time : Settings
one_at_a_time = record usual { concurrency = 1; age = 60; timeout = 900 }

abbrev pub start_of_two : List Command
start_of_two = accept 2 t ∷ start 2 t ∷ accept 1 t ∷ []

-- event 2 ran when the broker stopped
abbrev pub after_a_stop : Past
after_a_stop = past_of one_at_a_time 0 start_of_two (runtime_asks 1 t ∷ tick t ∷ tick (t + 1) ∷ [])

-- event 2 runs, and event 1 is pushed back until it expires. A tick between these moments does nothing
abbrev pub throttled_run : List HallCall
throttled_run =
    invokes 1 t 2 ∷ runtime_asks 2 t ∷ tick t ∷ invokes 3 t 1
    ∷ tick t ∷ tick (t + 999) ∷ tick (t + 1000) ∷ tick (t + 3000) ∷ tick (t + 6999) ∷ tick (t + 7000) ∷ tick (t + 15000)
    ∷ tick (t + 31000) ∷ tick (t + 59999) ∷ tick (t + 60000) ∷ tick (t + 63000)
    ∷ []

abbrev pub throttled_history : List Command
throttled_history =
    start_of_two
    ++ does Throttle 1 t ∷ does Throttle 1 (t + 1000) ∷ does Throttle 1 (t + 3000) ∷ does Throttle 1 (t + 7000)
    ∷ does Throttle 1 (t + 15000) ∷ does Throttle 1 (t + 31000) ∷ does Expire 1 (t + 60000)
    ∷ []

-- event 1 fails and is due in a minute, event 2 comes before that
abbrev pub due_before_first : List HallCall
due_before_first = one_runs t ++ reports 3 t 1 braces ∷ invokes 4 (t + 1000) 2 ∷ runtime_asks 5 (t + 1000) ∷ []

-- event 2 runs and is answered
abbrev pub second_answered : List HallCall
second_answered =
    due_before_first ++ tick (t + 60000) ∷ responds 6 (t + 60000) 2 [] ∷ runtime_asks 7 (t + 60000) ∷ []

abbrev pub two_environments : Settings
two_environments = record usual { environments = 2 }

-- the runtime of environment 2 asks before that of environment 1
abbrev pub second_then_first : List HallCall
second_then_first = invokes 1 t 1 ∷ asks 2 t 0 (calls.RuntimeNext 2) ∷ runtime_asks 3 t ∷ []

-- ## Extensions

-- an extension that is given events, one that is only told of the end, and the runtime ask; then event 1 comes and runs
abbrev pub extensions_run : List HallCall
extensions_run =
    asks 1 t 21 (calls.Register 1 [] true false false)
    ∷ asks 2 t 22 (calls.Register 1 [] false true false)
    ∷ extension_asks 3 21
    ∷ extension_asks 4 22
    ∷ runtime_asks 5 t
    ∷ invokes 6 t 1
    ∷ tick t
    ∷ []

abbrev pub ten_register : List HallCall
ten_register =
    registers 21 ∷ registers 22 ∷ registers 23 ∷ registers 24 ∷ registers 25 ∷ registers 26 ∷ registers 27 ∷ registers 28
    ∷ registers 29 ∷ registers 30 ∷ []

abbrev pub eleven_register : List HallCall
eleven_register = ten_register ++ registers 31 ∷ []

-- ## Slots

-- the runtime polls on slot 1, and the stop comes on slot 2
abbrev pub stopped : List HallCall
stopped = runtime_asks 1 t ∷ stops 2 t ∷ []

-- event 1 is accepted and its reply taken, the runtime polls, and event 2 comes
abbrev pub poll_and_second : List HallCall
poll_and_second = invokes 1 t 1 ∷ take_slot 1 ∷ runtime_asks 2 t ∷ invokes 3 t 2 ∷ []

-- 256 commands, of which no event is held
abbrev pub many : Past
many = opening 0 (replicate 256 (does Interrupt 9 t))
