-- What one call of a hall does: its command, its calls of environments, and its own reply.
use Rattle.std.specs.Prelude.{ℕ, ◌+◌, ◌*◌, ◌/◌, ◌%◌, ◌^◌, Bool, true, false, List, [], ◌∷◌, ◌++◌, count_by, map, Option, Some, None, is_some, option_map, unwrap_or, if◌then◌else◌}
use Rattle.std.specs.Int.{to_be_bytes, w64}
use Rattle.retry_rules.specs.declared.settings.Settings.{Settings}
use Rattle.invoke_records.specs.declared.command.Command.{Command}
use Rattle.invoke_records.specs.declared.command.Kind.{Kind}
use Rattle.invoke_records.specs.declared.command.Kind.TheVariants.{Accept, Start, Succeed, Fail, Interrupt, Collect}
use Rattle.invoke_records.specs.declared.command.Cause.TheVariants.{Reported, Timeout, Exited}
use Rattle.async_core.specs.declared.choice.Side.{Side}
use Rattle.async_core.specs.declared.choice.Side.TheVariants as side
use Rattle.async_core.specs.declared.illegal.Illegal.{Illegal}
use Rattle.async_core.specs.declared.illegal.Illegal.TheVariants as illegal
use Rattle.async_core.specs.Lives.{life}
use Rattle.async_core.specs.Standings.{is_past_deadline}
use Rattle.async_core.specs.History.{held, standing_in, refusal_of}
use Rattle.async_core.specs.Choice.{move_of, ended_on}
use Rattle.async_core.specs.Readers.{Ending, ending_in}
use Rattle.env_phase.specs.declared.refusal.Refusal.{Refusal as EnvRefusal}
use Rattle.env_phase.specs.declared.refusal.Refusal.TheVariants as env_refusal
use Rattle.env_phase.specs.declared.call.EnvCall.{EnvCall}
use Rattle.env_phase.specs.Environment.{running, runs}
use Rattle.env_phase.specs.declared.call.EnvCall.TheVariants as env
use Rattle.env_phase.specs.Polls.{refusal_of as env_refusal_of}
use Rattle.api_core.specs.declared.call.Call.{Call}
use Rattle.api_core.specs.declared.call.Call.TheVariants as calls
use Rattle.api_core.specs.declared.dialect.Audience.TheVariants.{Caller, Environment}
use Rattle.api_core.specs.declared.refusal.Refusal.{Refusal}
use Rattle.api_core.specs.declared.refusal.Refusal.TheVariants as refusal
use Rattle.api_core.specs.Replies.{Told}
use Rattle.api_core.specs.Replies as reply
use Rattle.hall_plans.specs.Past.{HallCall, arrive, tick, take_slot, forget_slot, Past, environments, calls_of, holder, ready_in, is_stopping, moment}
use Rattle.hall_plans.specs.Firsts.{Event, first_unheld, first_moving, oldest_ended}

-- at most one command, calls of environments by their numbers, and the reply to the caller, which is none while it is parked
pub record Effect : Type 0 where
  pub command : Option Command
  pub made : List (ℕ × EnvCall)
  pub reply : Option Told

-- what a call meets: the settings, what was done before it, and its moment
pub record Scene : Type 0 where
  pub settings : Settings
  pub past : Past
  pub now : ℕ

abbrev pub nothing : Effect
nothing = record { command = None; made = []; reply = None }

abbrev pub says : Told → Effect
says answered = record { command = None; made = []; reply = Some answered }

-- a runtime or an extension is refused
abbrev pub refuses : Refusal → Effect
refuses why = says (reply.refused Environment why)

-- a caller is
abbrev pub refuses_caller : Refusal → Effect
refuses_caller why = says (reply.refused Caller why)

-- a command that names this event, without an environment
abbrev pub command_for : Kind → List ℕ → ℕ → List ℕ → Command
command_for kind id time bytes = record { kind = kind; id = id; environment = 0; time = time; bytes = bytes }

-- the version 4 id of two random words, the high one first
abbrev pub id_of : ℕ × ℕ → List ℕ
id_of words =
    to_be_bytes w64 (words.0 / 2 ^ 16 * 2 ^ 16 + 4 * 2 ^ 12 + words.0 % 2 ^ 12) ++ to_be_bytes w64 (2 ^ 63 + words.1 % 2 ^ 62)

-- ## Callers

-- how many events have ended on this side, and are records that wait to be collected
abbrev pub record_count : Scene → Side → ℕ
record_count x side = count_by (λ (e : Event). ended_on side (standing_in x.settings x.past.history e.1)) (held x.past.history)

-- so many of success and of failure
abbrev pub record_counts : Scene → ℕ × ℕ
record_counts x = (record_count x side.Success, record_count x side.Failure)

abbrev pub accept_by : Told → ℕ × ℕ → Option Illegal → Command → Effect
accept_by told records None c = record { command = Some c; made = []; reply = Some told }
accept_by told records (Some illegal.Full) c = says (reply.table_full records.0 records.1)
accept_by told records (Some why) c = refuses_caller refusal.IdInUse

-- an invocation is accepted where that is legal, and told so
abbrev pub accepts : Told → Scene → Command → Effect
accepts told x c = accept_by told (record_counts x) (refusal_of x.settings x.past.history c) c

abbrev pub collect_by : Option Illegal → Command → Effect
collect_by None c = record { command = Some c; made = []; reply = Some (reply.deleted c.id) }
collect_by (Some illegal.NotEnded) c = says (reply.not_ended c.id)
collect_by (Some why) c = refuses_caller refusal.UnknownEvent

-- an event is collected where that is legal
abbrev pub collects : Scene → Option (List ℕ) → Effect
collects x None = refuses_caller refusal.UnknownEvent
collects x (Some id) =
    collect_by (refusal_of x.settings x.past.history (command_for Collect id x.now [])) (command_for Collect id x.now [])

abbrev pub says_record : Option Ending → Effect
says_record None = says reply.no_record
says_record (Some ending) = says (reply.record_of ending)

abbrev pub ending_of_event : Settings → List Command → Option Event → Option Ending
ending_of_event s history None = None
ending_of_event s history (Some event) = ending_in event.1 (life event.1 history) (standing_in s history event.1)

-- the record of the event that ended first on this side
abbrev pub tells_oldest : Scene → Side → Effect
tells_oldest x side = says_record (ending_of_event x.settings x.past.history (oldest_ended x.settings x.past.history side))

-- each environment is shut down
abbrev pub stops : Scene → Effect
stops x = record {
  command = None;
  made = map (λ environment. (environment, env.Shutdown x.now)) (environments x.settings);
  reply = Some reply.taken;
}

-- ## Requests to an environment

abbrev pub refusal_by : EnvRefusal → Refusal
refusal_by env_refusal.UnknownExtension = refusal.UnknownExtension
refusal_by env_refusal.RegistrationClosed = refusal.RegistrationClosed
refusal_by env_refusal.TooManyExtensions = refusal.TooManyExtensions
refusal_by env_refusal.InUse = refusal.IdInUse
refusal_by env_refusal.WrongPhase = refusal.WrongPhase

abbrev pub where_accepted : Option EnvRefusal → Effect → Effect
where_accepted None effect = effect
where_accepted (Some why) effect = refuses (refusal_by why)

-- this call of the environment, with this command and reply, where the environment accepts it
abbrev pub requests : Scene → ℕ → EnvCall → Option Command → Option Told → Effect
requests x environment call command answered =
    where_accepted (env_refusal_of x.past.wanted (calls_of x.past environment) call)
    (record { command = command; made = (environment, call) ∷ []; reply = answered })

-- the attempt's time is over
abbrev pub is_late : Scene → List ℕ → Bool
is_late x id = is_past_deadline x.now (standing_in x.settings x.past.history id)

-- an answer in time ends the attempt, a late one is its timeout and resets the environment
abbrev pub answers_event : Scene → ℕ → Kind → List ℕ → List ℕ → Effect
answers_event x environment kind id bytes =
    if is_late x id then record {
      command = Some (command_for (Fail Timeout) id x.now []);
      made = (environment, env.Timeout x.now) ∷ [];
      reply = Some (reply.refused Environment refusal.InvalidRequestId);
    }
    else record {
      command = Some (command_for kind id x.now bytes);
      made = (environment, env.Answer id) ∷ [];
      reply = Some reply.taken;
    }

-- a response or an error for the event that the environment runs
abbrev pub responds : Scene → ℕ → Kind → Option (List ℕ) → List ℕ → Effect
responds x environment kind None bytes = refuses refusal.InvalidRequestId
responds x environment kind (Some id) bytes =
    if runs (calls_of x.past environment) id then answers_event x environment kind id bytes
    else refuses refusal.InvalidRequestId

-- how an attempt fails whose environment an extension has left
abbrev pub exit_of : Scene → List ℕ → Command
exit_of x id = command_for (if is_late x id then Fail Timeout else Fail Exited) id x.now []

-- an extension exits: the event that runs fails
abbrev pub exits : Scene → ℕ → List ℕ → Effect
exits x environment identifier =
    requests x environment (env.ExtensionError identifier false x.now) (option_map (exit_of x) (running (calls_of x.past environment)))
    (Some reply.taken)

-- ## Requests

-- what a request does, with its slot and the id that was drawn for it
abbrev pub effect_of_request : Scene → ℕ → List ℕ → Call → Effect
effect_of_request x slot drawn (calls.Invoke payload) = accepts (reply.accepted drawn) x (command_for Accept drawn x.now payload)
effect_of_request x slot drawn (calls.InvokeAsync payload) = accepts (reply.accepted_async drawn) x (command_for Accept drawn x.now payload)
effect_of_request x slot drawn (calls.Describe what) = says (reply.described what)
effect_of_request x slot drawn (calls.Oldest side) = tells_oldest x side
effect_of_request x slot drawn (calls.Delete id) = collects x id
effect_of_request x slot drawn calls.StopBroker = stops x
effect_of_request x slot drawn (calls.RuntimeNext environment) = requests x environment (env.RuntimeNext slot) None None
effect_of_request x slot drawn (calls.Response environment id body) = responds x environment Succeed id body
effect_of_request x slot drawn (calls.RuntimeError environment id body) = responds x environment (Fail Reported) id body
effect_of_request x slot drawn (calls.RuntimeInitError environment) =
    requests x environment (env.InitError x.now) None (Some reply.taken)
effect_of_request x slot drawn (calls.Register environment name events end account) =
    requests x environment (env.Register drawn events end) None (Some (reply.registered drawn account))
effect_of_request x slot drawn (calls.ExtensionNext environment identifier) =
    requests x environment (env.ExtensionNext identifier slot) None None
effect_of_request x slot drawn (calls.ExtensionInitError environment identifier) =
    requests x environment (env.ExtensionError identifier true x.now) None (Some reply.taken)
effect_of_request x slot drawn (calls.ExtensionExitError environment identifier) = exits x environment identifier
effect_of_request x slot drawn (calls.Subscribe environment stream) = says (reply.not_supported stream)

-- ## Ticks

-- a command without a reply, and calls of environments
abbrev pub does : Command → List (ℕ × EnvCall) → Effect
does c made = record { command = Some c; made = made; reply = None }

-- what this environment is told, if it is one
abbrev pub told_to : Option ℕ → EnvCall → List (ℕ × EnvCall)
told_to None call = []
told_to (Some environment) call = (environment, call) ∷ []

-- a start gives the event to the environment that is ready, a timeout resets the one that holds it
abbrev pub moves_event : Scene → Option ℕ → List ℕ → Kind → Effect
moves_event x ready id Start =
    does (record { kind = Start; id = id; environment = unwrap_or ready 0; time = x.now; bytes = [] })
    (told_to ready (env.Give id (x.now + 1000 * x.settings.timeout)))
moves_event x ready id (Fail cause) =
    does (command_for (Fail cause) id x.now []) (told_to (holder x.settings x.past id) (env.Timeout x.now))
moves_event x ready id kind = does (command_for kind id x.now []) []

abbrev pub moves_by : Scene → Option ℕ → List ℕ → Option Kind → Effect
moves_by x ready id None = nothing
moves_by x ready id (Some kind) = moves_event x ready id kind

-- what the event that moves next does
abbrev pub moves : Scene → Option ℕ → Option Event → Effect
moves x ready None = nothing
moves x ready (Some event) = moves_by x ready event.1 (move_of x.settings x.past.history x.now (is_some ready) event.1)

-- an interrupt for a running event that no environment holds, else the next move
abbrev pub interrupts_or_moves : Scene → Option ℕ → Option Event → Effect
interrupts_or_moves x ready None = moves x ready (first_moving x.settings x.past.history x.now (is_some ready))
interrupts_or_moves x ready (Some event) = does (command_for Interrupt event.1 x.now []) []

-- what a tick does: nothing once the broker stops
abbrev pub effect_of_tick : Scene → Effect
effect_of_tick x =
    if is_stopping x.past then nothing
    else interrupts_or_moves x (ready_in x.settings x.past) (first_unheld x.settings x.past)

-- ## Calls

-- what a call meets that comes at this moment
abbrev pub scene : Settings → Past → ℕ → Scene
scene s past now = record { settings = s; past = past; now = moment past now }

-- what a call does
unfoldable pub effect_of : Settings → Past → HallCall → Effect
effect_of s past (arrive slot call now words) = effect_of_request (scene s past now) slot (id_of words) call
effect_of s past (tick now) = effect_of_tick (scene s past now)
effect_of s past (take_slot slot) = nothing
effect_of s past (forget_slot slot) = nothing

-- the command of a call, if it has one
abbrev pub command_of : Settings → Past → HallCall → Option Command
command_of s past call = (effect_of s past call).command
