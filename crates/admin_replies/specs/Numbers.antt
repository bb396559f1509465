-- The numbers of a broker, by what was seen of it.
use Rattle.std.specs.Prelude.{◌≡◌, ℕ, ◌+◌, ◌-◌, ◌*◌, ◌^◌, ◌≤◌, ◌↔◌, Bool, true, false, List, [], Option, Some, None, min, length, slice_index, IfSome, IsNone, All, Contains, if◌then◌else◌}
use Rattle.std.specs.List.{count_by, sum_by}
use Rattle.env_phase.specs.declared.phase.Phase.{Phase}
use Rattle.env_phase.specs.declared.phase.Phase.TheVariants.{Init, Ready, Busy, Closing}
use Rattle.hall_plans.specs.declared.environment_status.EnvironmentStatus.{EnvironmentStatus}
use Rattle.operator_view.specs.declared.numbers.Census.{Census}
use Rattle.operator_view.specs.declared.memory.Counts.{Counts}
use Rattle.operator_view.specs.declared.sight.Sight.{Sight}
use Rattle.operator_view.specs.declared.problem.Problem.{Problem}
use Rattle.operator_view.specs.Memory.{lately}
use Rattle.operator_view.specs.Verdict.{problems}
use Rattle.port_meters.specs.declared.counters.Counters.{Counters}
use Rattle.retry_rules.specs.declared.policy.RetryPolicy.{RetryPolicy}
use Rattle.retry_rules.specs.declared.settings.Settings.{Settings}
use Rattle.receipts.specs.declared.view.View.{View}
use Rattle.receipts.specs.declared.command_counters.CommandCounters.{CommandCounters}
use Rattle.admin_replies.specs.declared.metrics.Limits.{Limits}
use Rattle.admin_replies.specs.declared.metrics.Metrics.{Metrics}
use Rattle.admin_replies.specs.declared.metrics.Phases.{Phases}
use Rattle.admin_replies.specs.declared.metrics.Premise.{Premise}
use Rattle.admin_replies.specs.declared.metrics.Process.{Process}
use Rattle.admin_replies.specs.declared.metrics.EventCounters.{EventCounters}
use Rattle.admin_replies.specs.declared.measuring.Measures.{Measures}
use Rattle.admin_replies.specs.declared.telling.Baseline.{Baseline}
use Rattle.port_meters.specs.Counting.{sum_up_to}
use Rattle.admin_replies.specs.Environments.{is_phase}
use Rattle.admin_replies.specs.Phases.{unpolled_from}
use Rattle.admin_replies.specs.declared.measuring.ClockSet.{ClockSet}
use Rattle.admin_replies.specs.declared.phase_memory.SeenPhase.{SeenPhase}

-- how long ago that was, in milliseconds, if it was: 0 where it will be
abbrev pub age_of : ℕ → Option ℕ → Option ℕ
age_of now None = None
age_of now (Some moment) = Some (now - moment)

-- ## Environments

abbrev pub is_in_phase : Phase → EnvironmentStatus → Bool
is_in_phase phase status = is_phase phase status.phase

abbrev pub phases_of : List EnvironmentStatus → Phases
phases_of environments = record {
  init = count_by (is_in_phase Init) environments;
  ready = count_by (is_in_phase Ready) environments;
  busy = count_by (is_in_phase Busy) environments;
  closing = count_by (is_in_phase Closing) environments;
}

-- how many polls are parked
abbrev pub parked_in : List EnvironmentStatus → ℕ
parked_in environments = sum_by (λ (status : EnvironmentStatus). status.parked) environments

-- ## What became of events since the opening

-- how many have ended and are held
abbrev pub ended_in : Census → ℕ
ended_in census = census.success + (census.retries_exhausted + census.event_age_exceeded)

-- how many have ended since so many had: those that are held, and those that were collected
abbrev pub ended_since : (before ended collected : ℕ) → ℕ
ended_since before ended collected = sum_up_to ended collected - before

-- each that ended neither with success nor by its age had no retries left
abbrev pub event_counters : (before interrupted ended : ℕ) → CommandCounters → EventCounters
event_counters before interrupted ended counted = record {
  accepted = counted.accepted;
  success = counted.succeeded;
  retries_exhausted = ended_since before ended counted.collected - counted.succeeded - counted.expired;
  event_age_exceeded = counted.expired;
  collected = counted.collected;
  started = counted.started;
  failed = counted.failed;
  throttled = counted.throttled;
  interrupted = sum_up_to counted.interrupted interrupted;
}

-- of these, the opening interrupted some before anything was counted
abbrev pub events_since : Baseline → Census → CommandCounters → EventCounters
events_since baseline census counted =
    event_counters baseline.ended_before baseline.opening.interrupted (min (ended_in census) (2 ^ 64 - 1)) counted

-- ## Of the process

-- a sector has 512 bytes
abbrev pub in_bytes : ℕ → ℕ
in_bytes sectors = min (sectors * 512) (2 ^ 64 - 1)

abbrev pub process_told : Measures → Bool → Process
process_told measures is_stopping = record {
  commits = measures.counters.commits;
  switches = measures.counters.generation - measures.counters.first_generation;
  written_bytes = measures.written_bytes;
  commit_microseconds = measures.counters.commit_microseconds;
  buckets = measures.counters.buckets;
  generation = measures.counters.generation;
  bytes = in_bytes measures.counters.sectors;
  free_bytes = in_bytes measures.counters.free_sectors;
  resident_bytes = measures.resident_bytes;
  started_at = measures.started_at;
  is_stopping = is_stopping;
  has_fault = measures.has_fault;
  refused = measures.counters.refused;
}

-- ## Of the premises

abbrev pub noticed_by : Measures → Premise
noticed_by measures = record { flush_seconds = measures.flush_seconds; clock = measures.clock; lines_dropped = measures.lines_dropped }

-- ## What is wrong

-- what is counted up to now, when so long was looked and the clock was set so often
abbrev pub counts_told : (elapsed steps : ℕ) → EventCounters → Counters → Counts
counts_told elapsed steps events counters = record {
  at = elapsed;
  accepted = events.accepted;
  started = events.started;
  succeeded = events.success;
  failed = events.failed;
  ended = sum_up_to (sum_up_to events.success events.retries_exhausted) events.event_age_exceeded;
  expired = events.event_age_exceeded;
  commits = counters.commits;
  commit_microseconds = counters.commit_microseconds;
  quick_commits = slice_index counters.buckets 6;
  refused_full = counters.refused.too_many;
  refused_busy = counters.refused.unavailable;
  clock_steps = steps;
}

-- by how many milliseconds the clock was set ahead last; 0 where it was set back
abbrev pub set_ahead : ClockSet → ℕ
set_ahead clock = if clock.is_back then 0 else clock.millis

-- for how long the attempt runs that is to be done first, at this moment and by this timeout; 0 where none runs
abbrev pub running_for : ℕ → ℕ → Option ℕ → ℕ
running_for now timeout None = 0
running_for now timeout (Some deadline) = now - (deadline - 1000 * timeout)

-- what the port sees by which a verdict is found
pub record IsSight (settings : Settings) (view : View) (seen : List SeenPhase) (measures : Measures) (now : ℕ) (counts : Counts) (sight : Sight) : Type 0 where
  pub at : sight.at ≡ now
  pub flush_seconds : sight.flush_seconds ≡ measures.flush_seconds
  pub last_moment : sight.last_moment ≡ view.hall.tally.last_moment
  pub set_ahead : sight.set_ahead ≡ set_ahead measures.clock
  pub held_ahead : sight.held_ahead ≡ measures.held_back.ahead
  pub held_left : sight.held_left ≡ measures.held_back.left
  pub environments : sight.environments ≡ length view.hall.environments.items
  pub without_poll : sight.without_poll ≡ count_by (is_in_phase Init) view.hall.environments.items
  pub busy : sight.busy ≡ count_by (is_in_phase Busy) view.hall.environments.items
  pub running : sight.running ≡ view.hall.tally.census.running
  pub unpolled : sight.unpolled ≡ (unpolled_from seen 1 measures.elapsed).environment
  pub unpolled_for : sight.unpolled_for ≡ (unpolled_from seen 1 measures.elapsed).time
  pub running_for : sight.running_for ≡ running_for now settings.timeout view.hall.tally.first_deadline
  pub held : sight.held ≡ view.hall.tally.census.held
  pub most_events : sight.most_events ≡ settings.events
  pub ended : sight.ended ≡ min (ended_in view.hall.tally.census) (2 ^ 64 - 1)
  pub timeout : sight.timeout ≡ settings.timeout
  pub due : sight.due ≡ view.hall.tally.due
  pub first_due : sight.first_due ≡ view.hall.tally.first_due
  pub quiet : sight.quiet ≡ measures.elapsed - measures.memory.quiet_since
  pub expiring : sight.expiring ≡ view.hall.tally.expiring
  pub oldest_record : sight.oldest_record_age ≡ age_of now view.hall.tally.oldest_record
  pub lately : sight.lately ≡ lately measures.memory counts

-- what is found in what is seen
abbrev pub AreProblems : Settings → View → List SeenPhase → Measures → ℕ → Counts → List (Option Problem) → Type 0
AreProblems settings view seen measures now counts found =
    (sight : Sight) × IsSight settings view seen measures now counts sight × (found ≡ problems sight)

-- ## All of them

-- the settings that are numbers, under the policy that is in force
abbrev pub limits_of : RetryPolicy → Settings → Limits
limits_of policy s = record {
  retries = policy.retries;
  age = policy.age;
  timeout = s.timeout;
  concurrency = s.concurrency;
  events = s.events;
  payload = s.payload;
  response = s.response;
}

-- the numbers of what was seen: those of its table are the tally's
pub record AreMetrics (baseline : Baseline) (view : View) (seen : List SeenPhase) (measures : Measures) (now : ℕ) (metrics : Metrics) : Type 0 where
  pub census : metrics.census ≡ view.hall.tally.census
  pub oldest_wait : metrics.oldest_wait_age ≡ age_of now view.hall.tally.oldest_waiting
  pub oldest_record : metrics.oldest_record_age ≡ age_of now view.hall.tally.oldest_record
  pub issued : metrics.issued ≡ view.hall.issued
  pub durable : metrics.durable ≡ view.hall.durable
  pub pending : metrics.pending ≡ view.hall.issued - view.hall.durable
  pub open_slots : metrics.open_slots ≡ view.hall.open_slots
  pub parked : metrics.parked_polls ≡ min (parked_in view.hall.environments.items) (2 ^ 64 - 1)
  pub environments : metrics.environments ≡ phases_of view.hall.environments.items
  pub events : metrics.events ≡ events_since baseline metrics.census view.counters
  pub lives : metrics.lives ≡ view.lives
  pub process : metrics.process ≡ process_told measures view.hall.is_stopping
  pub ports : metrics.ports ≡ measures.ports
  pub limits : metrics.limits ≡ limits_of view.hall.policy baseline.settings
  pub noticed : metrics.noticed ≡ noticed_by measures
  pub problems : AreProblems baseline.settings view seen measures now (counts_told measures.elapsed measures.clock.steps metrics.events measures.counters) metrics.problems
