-- A run of a hall: the history, the calls of environments and the replies that a list of its calls makes.
use Rattle.std.specs.Prelude.{ℕ, ◌+◌, List, [], ◌∷◌, ◌++◌, length, map, flat_map, Option, Some, None, option_map}
use Rattle.retry_rules.specs.declared.settings.Settings.{Settings}
use Rattle.invoke_records.specs.declared.command.Command.{Command}
use Rattle.async_core.specs.Lives.{life, payload_of}
use Rattle.env_phase.specs.declared.answer.Reason.{Reason}
use Rattle.env_phase.specs.declared.answer.Reason.TheVariants as reason
use Rattle.env_phase.specs.declared.answer.PollAnswer.{PollAnswer}
use Rattle.env_phase.specs.declared.answer.PollAnswer.TheVariants as told
use Rattle.env_phase.specs.declared.call.EnvCall.{EnvCall}
use Rattle.env_phase.specs.Polls.{answered_by}
use Rattle.api_core.specs.declared.answer.ShutdownReason.{ShutdownReason}
use Rattle.api_core.specs.declared.answer.ShutdownReason.TheVariants as shutdown
use Rattle.api_core.specs.declared.dialect.Audience.TheVariants.{Environment}
use Rattle.api_core.specs.declared.refusal.Refusal.TheVariants as refusal
use Rattle.api_core.specs.Replies.{Told}
use Rattle.api_core.specs.Replies as reply
use Rattle.hall_plans.specs.Past.{HallCall, arrive, tick, take_slot, forget_slot, SlotEvent, asked, replied, taken, forgotten, Past, opening, calls_of}
use Rattle.hall_plans.specs.declared.issued.Issued.{Issued}
use Rattle.hall_plans.specs.Effects.{Effect, effect_of, command_of}

-- ## One call

abbrev pub option_list : {A : Type 0} → Option A → List A
option_list None = []
option_list (Some x) = x ∷ []

-- why an environment ends, as it is told
abbrev pub reason_told : Reason → ShutdownReason
reason_told reason.Spindown = shutdown.Spindown
reason_told reason.Timeout = shutdown.Timeout
reason_told reason.Failure = shutdown.Failure

-- what a poll is answered: an event comes to the runtime with its payload
abbrev pub reply_to_poll : List Command → PollAnswer → Told
reply_to_poll history (told.RuntimeEvent id deadline) = reply.runtime_event id deadline (payload_of (life id history))
reply_to_poll history (told.Invoke id deadline) = reply.invoke_event id deadline
reply_to_poll history (told.Shutdown why deadline) = reply.shutdown_event (reason_told why) deadline
reply_to_poll history told.Replaced = reply.refused Environment refusal.Replaced
reply_to_poll history told.Reset = reply.refused Environment refusal.EnvironmentReset

-- the replies to the polls that a call of an environment answers
abbrev pub replies_to_polls : Past → ℕ → ℕ × EnvCall → List SlotEvent
replies_to_polls past point made =
    map (λ (poll : ℕ × PollAnswer). replied poll.0 (reply_to_poll past.history poll.1) point) (answered_by (calls_of past made.0) made.1)

-- the slots of polls
abbrev pub slots_of : List (ℕ × PollAnswer) → List ℕ
slots_of polls = map (λ (poll : ℕ × PollAnswer). poll.0) polls

-- the reply to the caller
abbrev pub own_reply : ℕ → HallCall → Option Told → List SlotEvent
own_reply point (arrive slot call now words) (Some answer) = replied slot answer point ∷ []
own_reply point call answer = []

-- what a call says of its own slot
abbrev pub own_event : HallCall → List SlotEvent
own_event (arrive slot call now words) = asked slot call ∷ []
own_event (tick now) = []
own_event (take_slot slot) = taken slot ∷ []
own_event (forget_slot slot) = forgotten slot ∷ []

-- what a call with this effect says of slots, all its replies at this point
abbrev pub slot_events : Past → HallCall → Effect → ℕ → List SlotEvent
slot_events past call effect point =
    own_event call ++ flat_map (replies_to_polls past point) effect.made ++ own_reply point call effect.reply

-- what was done after a call with this effect: the point of its replies is the length of the history after it
abbrev pub past_by : Past → HallCall → Effect → Past
past_by past call effect = record {
  wanted = past.wanted;
  history = past.history ++ option_list effect.command;
  made = past.made ++ effect.made;
  slots = past.slots ++ slot_events past call effect (length (past.history ++ option_list effect.command));
}

-- what was done after one call more
unfoldable pub past_after : Settings → Past → HallCall → Past
past_after s past call = past_by past call (effect_of s past call)

-- the slots of the polls that a call answers, in the order of their replies
unfoldable pub polls_answered : Settings → Past → HallCall → List ℕ
polls_answered s past call =
    slots_of (flat_map (λ (made : ℕ × EnvCall). answered_by (calls_of past made.0) made.1) (effect_of s past call).made)

-- what a call answers of its command: its number, kind, id and moment
abbrev pub issued_by : Settings → Past → HallCall → Option Issued
issued_by s past call =
    option_map (λ (c : Command). record { number = length past.history + 1; kind = c.kind; id = c.id; time = c.time })
    (command_of s past call)

-- ## A run

-- what was done after these calls more
abbrev pub after : Settings → Past → List HallCall → Past
after s past [] = past
after s past (call ∷ run) = after s (past_after s past call) run

-- what a hall has done that was opened on this history and made this run, and whose environments wait for so many extensions
abbrev pub past_of : Settings → ℕ → List Command → List HallCall → Past
past_of s wanted opened run = after s (opening wanted opened) run

-- the history after a run
abbrev pub history_of : Settings → ℕ → List Command → List HallCall → List Command
history_of s wanted opened run = (past_of s wanted opened run).history
