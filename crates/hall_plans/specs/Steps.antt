-- Words for the steps of private functions.
use Rattle.std.specs.Prelude.{◌≡◌, ℕ, Bool, List, [], ◌∷◌, Option, Some, None, is_some}
use Rattle.invoke_records.specs.declared.command.Kind.TheVariants.{Fail}
use Rattle.invoke_records.specs.declared.command.Cause.TheVariants as cause
use Rattle.async_core.specs.declared.illegal.Illegal.{Illegal}
use Rattle.async_core.specs.declared.illegal.Illegal.TheVariants as illegal
use Rattle.env_phase.specs.declared.call.EnvCall.{EnvCall}
use Rattle.env_phase.specs.declared.call.EnvCall.TheVariants.{Register, Timeout}
use Rattle.api_core.specs.declared.dialect.Audience.TheVariants.{Caller, Environment}
use Rattle.api_core.specs.declared.refusal.Refusal.{Refusal}
use Rattle.api_core.specs.declared.refusal.Refusal.TheVariants as refusal
use Rattle.hall_plans.specs.Past.{ready_in, calls_of}
use Rattle.hall_plans.specs.Firsts.{first_unheld, first_moving}
use Rattle.api_core.specs.Replies as reply
use Rattle.api_core.specs.Replies.{Told}
use Rattle.hall_plans.specs.Effects.{Effect, Scene, command_for, requests, moves, interrupts_or_moves}
use Rattle.hall_plans.specs.Agreement.{IsOne}
use Rattle.invoke_records.specs.declared.row.Standing.{Standing}
use Rattle.invoke_records.specs.declared.row.Standing.TheVariants as standing
use Rattle.env_phase.specs.Environment.{running}

-- ## Parts of effects

-- a poll, which is parked where the environment accepts it
abbrev pub parks : Scene → ℕ → EnvCall → Effect
parks x environment call = requests x environment call None None

-- a report, which is taken where the environment accepts it
abbrev pub reports : Scene → ℕ → EnvCall → Effect
reports x environment call = requests x environment call None (Some reply.taken)

-- an extension registers under this identifier, for events, for the end of the environment, for both or neither
abbrev pub registers : Scene → ℕ → List ℕ → Bool → Bool → Bool → Effect
registers x environment identifier events end account =
    requests x environment (Register identifier events end) None (Some (reply.registered identifier account))

-- an answer came too late: the attempt ends as a timeout, and the environment is reset
abbrev pub times_out : Scene → ℕ → List ℕ → Effect
times_out x environment id = record {
  command = Some (command_for (Fail cause.Timeout) id x.now []);
  made = (environment, Timeout x.now) ∷ [];
  reply = Some (reply.refused Environment refusal.InvalidRequestId);
}

-- what the event that moves next does, where this environment is ready
abbrev pub moves_next : Scene → Option ℕ → Effect
moves_next x ready = moves x ready (first_moving x.settings x.past.history x.now (is_some ready))

-- what a tick does while the broker is not stopping
abbrev pub goes_on : Scene → Effect
goes_on x = interrupts_or_moves x (ready_in x.settings x.past) (first_unheld x.settings x.past)

-- ## Refusals

-- what is told of an invocation that is not legal, where so many events are records
abbrev pub why_not_accepted : ℕ × ℕ → Illegal → Told
why_not_accepted records illegal.Full = reply.table_full records.0 records.1
why_not_accepted records why = reply.refused Caller refusal.IdInUse

-- what is told of an event that is not collected where that is not legal
abbrev pub why_not_collected : List ℕ → Illegal → Told
why_not_collected id illegal.NotEnded = reply.not_ended id
why_not_collected id why = reply.refused Caller refusal.UnknownEvent

-- ## Events that run

-- where an event runs that stands so, if it does
abbrev pub environment_of : Standing → Option ℕ
environment_of (standing.Running environment deadline) = Some environment
environment_of other = None

-- an environment of the settings runs the event
abbrev pub Holds : Scene → ℕ → List ℕ → Type 0
Holds x environment id = IsOne x.settings environment × (running (calls_of x.past environment) ≡ Some id)
