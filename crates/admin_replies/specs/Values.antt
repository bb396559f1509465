-- The number that each metric names.
use Rattle.std.specs.Prelude.{ℕ, Bool, true, false, List, Option, slice_get, slice_index, unwrap_or, is_some}
use Rattle.std.specs.Option.{option_map_or}
use Rattle.operator_view.specs.declared.numbers.Census.{Census}
use Rattle.operator_view.specs.declared.problem.Problem.{Problem}
use Rattle.admin_replies.specs.declared.metrics.Limits.{Limits}
use Rattle.admin_replies.specs.declared.metrics.Metrics.{Metrics}
use Rattle.admin_replies.specs.declared.metrics.Phases.{Phases}
use Rattle.admin_replies.specs.declared.metrics.Premise.{Premise}
use Rattle.admin_replies.specs.declared.metrics.Process.{Process}
use Rattle.port_meters.specs.declared.counters.Refusals.{Refusals}
use Rattle.port_meters.specs.declared.histogram.Spread.{Spread}
use Rattle.receipts.specs.declared.lives.Lives.{Lives}
use Rattle.port_meters.specs.declared.port_meter.UnreadCounts.{UnreadCounts}
use Rattle.port_meters.specs.declared.ports.Ports.{Ports}
use Rattle.admin_replies.specs.declared.metric.Metric.{Metric}
use Rattle.admin_replies.specs.declared.metric.Metric.TheVariants as metric
use Rattle.admin_replies.specs.declared.metric.HeldMetric.{HeldMetric}
use Rattle.admin_replies.specs.declared.metric.HeldMetric.TheVariants as held
use Rattle.admin_replies.specs.declared.metric.LifeMetric.{LifeMetric}
use Rattle.admin_replies.specs.declared.metric.LifeMetric.TheVariants as life
use Rattle.admin_replies.specs.declared.metric.LimitMetric.{LimitMetric}
use Rattle.admin_replies.specs.declared.metric.LimitMetric.TheVariants as limit
use Rattle.admin_replies.specs.declared.metric.NoticeMetric.{NoticeMetric}
use Rattle.admin_replies.specs.declared.metric.NoticeMetric.TheVariants as notice
use Rattle.admin_replies.specs.declared.metric.OpenMetric.{OpenMetric}
use Rattle.admin_replies.specs.declared.metric.OpenMetric.TheVariants as open_of
use Rattle.admin_replies.specs.declared.metric.PhaseMetric.{PhaseMetric}
use Rattle.admin_replies.specs.declared.metric.PhaseMetric.TheVariants as phase
use Rattle.admin_replies.specs.declared.metric.RefusalMetric.{RefusalMetric}
use Rattle.admin_replies.specs.declared.metric.RefusalMetric.TheVariants as refusal
use Rattle.admin_replies.specs.declared.metric.ReplyMetric.{ReplyMetric}
use Rattle.admin_replies.specs.declared.metric.ReplyMetric.TheVariants as reply
use Rattle.admin_replies.specs.declared.metric.StateMetric.{StateMetric}
use Rattle.admin_replies.specs.declared.metric.StateMetric.TheVariants as state
use Rattle.admin_replies.specs.declared.metric.TimeMetric.{TimeMetric}
use Rattle.admin_replies.specs.declared.metric.TimeMetric.TheVariants as time
use Rattle.admin_replies.specs.declared.metric.UnreadMetric.{UnreadMetric}
use Rattle.admin_replies.specs.declared.metric.UnreadMetric.TheVariants as unread
use Rattle.admin_replies.specs.declared.metric.WaitMetric.{WaitMetric}
use Rattle.admin_replies.specs.declared.metric.WaitMetric.TheVariants as wait
use Rattle.admin_replies.specs.declared.value.Value.{Value}
use Rattle.admin_replies.specs.declared.value.Value.TheVariants.{Whole, Milliseconds, Microseconds, Signed}

-- an age, 0 where there is none
abbrev pub or_zero : Option ℕ → ℕ
or_zero age = unwrap_or age 0

-- 1 where it holds, else 0
abbrev pub indicator : Bool → ℕ
indicator true = 1
indicator false = 0

abbrev pub held_value : Census → HeldMetric → ℕ
held_value c held.Waiting = c.waiting
held_value c held.DueAgain = c.due_again
held_value c held.Running = c.running
held_value c held.Success = c.success
held_value c held.RetriesExhausted = c.retries_exhausted
held_value c held.EventAgeExceeded = c.event_age_exceeded

abbrev pub wait_value : Metrics → WaitMetric → Value
wait_value f wait.OldestWait = Milliseconds (or_zero f.oldest_wait_age)
wait_value f wait.OldestRecord = Milliseconds (or_zero f.oldest_record_age)
wait_value f wait.Pending = Whole f.pending
wait_value f wait.OpenSlots = Whole f.open_slots
wait_value f wait.ParkedPolls = Whole f.parked_polls

abbrev pub phase_value : Phases → PhaseMetric → ℕ
phase_value p phase.Init = p.init
phase_value p phase.Ready = p.ready
phase_value p phase.Busy = p.busy
phase_value p phase.Closing = p.closing

abbrev pub life_value : Metrics → LifeMetric → ℕ
life_value f life.Issued = f.issued
life_value f life.Durable = f.durable
life_value f life.Accepted = f.events.accepted
life_value f life.Success = f.events.success
life_value f life.RetriesExhausted = f.events.retries_exhausted
life_value f life.EventAgeExceeded = f.events.event_age_exceeded
life_value f life.Collected = f.events.collected
life_value f life.Started = f.events.started
life_value f life.Failed = f.events.failed
life_value f life.Throttled = f.events.throttled
life_value f life.Interrupted = f.events.interrupted

abbrev pub refusal_value : Refusals → RefusalMetric → ℕ
refusal_value r refusal.BadRequest = r.bad_request
refusal_value r refusal.NotFound = r.not_found
refusal_value r refusal.Conflict = r.conflict
refusal_value r refusal.TooLarge = r.too_large
refusal_value r refusal.TooMany = r.too_many
refusal_value r refusal.Unavailable = r.unavailable
refusal_value r refusal.Other = r.other

abbrev pub unread_value : UnreadCounts → UnreadMetric → ℕ
unread_value u unread.BadHead = u.bad_head
unread_value u unread.HeadTooLarge = u.head_too_large
unread_value u unread.HeadCutOff = u.head_cut_off
unread_value u unread.HeadLate = u.head_late
unread_value u unread.BodyCutOff = u.body_cut_off
unread_value u unread.BodyLate = u.body_late
unread_value u unread.Forbidden = u.forbidden

abbrev pub open_value : Ports → OpenMetric → ℕ
open_value p open_of.Callers = p.callers
open_value p open_of.Environments = p.environments
open_value p open_of.Operator = p.operator

abbrev pub spread_in : Ports → ReplyMetric → Spread
spread_in p reply.Call = p.calls
spread_in p reply.Report = p.reports
spread_in p reply.Poll = p.polls

-- a bucket counts those of the one before it too
abbrev pub time_value : Spread → TimeMetric → Value
time_value s (time.Within index) = Whole (slice_index s.buckets index)
time_value s time.All = Whole s.all
time_value s time.Time = Microseconds s.microseconds

abbrev pub commit_value : Process → TimeMetric → Value
commit_value p took = time_value (record { buckets = p.buckets; all = p.commits; microseconds = p.commit_microseconds }) took

abbrev pub event_value : Lives → TimeMetric → Value
event_value l (time.Within index) = Whole (slice_index l.buckets index)
event_value l time.All = Whole l.all
event_value l time.Time = Milliseconds l.milliseconds

abbrev pub state_value : Process → StateMetric → Value
state_value p state.Switches = Whole p.switches
state_value p state.WrittenBytes = Whole p.written_bytes
state_value p state.Generation = Whole p.generation
state_value p state.Bytes = Whole p.bytes
state_value p state.FreeBytes = Whole p.free_bytes
state_value p state.ResidentBytes = Whole p.resident_bytes
state_value p state.StartedAt = Milliseconds p.started_at
state_value p state.Stopping = Whole (indicator p.is_stopping)
state_value p state.Fault = Whole (indicator p.has_fault)

abbrev pub notice_value : Premise → NoticeMetric → Value
notice_value n notice.Flush = Whole n.flush_seconds
notice_value n notice.ClockStep = Signed n.clock.is_back n.clock.millis
notice_value n notice.ClockSteps = Whole n.clock.steps
notice_value n notice.LinesDropped = Whole n.lines_dropped

abbrev pub limit_value : Limits → LimitMetric → ℕ
limit_value l limit.Events = l.events
limit_value l limit.Concurrency = l.concurrency
limit_value l limit.Timeout = l.timeout
limit_value l limit.Retries = l.retries
limit_value l limit.Age = l.age
limit_value l limit.Payload = l.payload
limit_value l limit.Response = l.response

-- 1 where there is a problem at this place, else 0
abbrev pub problem_value : List (Option Problem) → ℕ → ℕ
problem_value problems place = option_map_or (λ (p : Option Problem). indicator (is_some p)) (slice_get problems place) 0

abbrev pub value_of : Metrics → Metric → Value
value_of f (metric.Held g) = Whole (held_value f.census g)
value_of f (metric.Wait g) = wait_value f g
value_of f (metric.Phase g) = Whole (phase_value f.environments g)
value_of f (metric.Life g) = Whole (life_value f g)
value_of f (metric.Refusal g) = Whole (refusal_value f.process.refused g)
value_of f (metric.Unread g) = Whole (unread_value f.ports.unread g)
value_of f (metric.Open g) = Whole (open_value f.ports g)
value_of f (metric.Reply g took) = time_value (spread_in f.ports g) took
value_of f (metric.Commit g) = commit_value f.process g
value_of f (metric.Event took) = event_value f.lives took
value_of f (metric.State g) = state_value f.process g
value_of f (metric.Notice g) = notice_value f.noticed g
value_of f (metric.Limit g) = Whole (limit_value f.limits g)
value_of f (metric.Problem place) = Whole (problem_value f.problems place)
