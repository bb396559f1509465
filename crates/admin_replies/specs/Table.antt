-- The numbers that are told, in their order, with the lines that begin their families.
use Rattle.std.specs.Prelude.{ℕ, List, [], ◌∷◌, ◌++◌, codes}
use Prim.Native.String.{String}
use Rattle.admin_replies.specs.declared.metric.Metric.{Metric}
use Rattle.admin_replies.specs.declared.metric.Metric.TheVariants as metric
use Rattle.admin_replies.specs.declared.metric.HeldMetric.TheVariants as held
use Rattle.admin_replies.specs.declared.metric.LifeMetric.TheVariants as life
use Rattle.admin_replies.specs.declared.metric.LimitMetric.TheVariants as limit
use Rattle.admin_replies.specs.declared.metric.NoticeMetric.TheVariants as notice
use Rattle.admin_replies.specs.declared.metric.OpenMetric.TheVariants as open_of
use Rattle.admin_replies.specs.declared.metric.PhaseMetric.TheVariants as phase
use Rattle.admin_replies.specs.declared.metric.RefusalMetric.TheVariants as refusal
use Rattle.admin_replies.specs.declared.metric.ReplyMetric.{ReplyMetric}
use Rattle.admin_replies.specs.declared.metric.ReplyMetric.TheVariants as reply
use Rattle.admin_replies.specs.declared.metric.StateMetric.TheVariants as state
use Rattle.admin_replies.specs.declared.metric.TimeMetric.TheVariants as time
use Rattle.admin_replies.specs.declared.metric.UnreadMetric.TheVariants as unread
use Rattle.admin_replies.specs.declared.metric.WaitMetric.TheVariants as wait
use Rattle.admin_replies.specs.declared.table.Section.{Section}
use Rattle.admin_replies.specs.declared.table.Section.TheVariants as section
use Rattle.admin_replies.specs.Lines.{Line}

-- ## A line, with two before it where a family begins

-- the lines that begin a family
abbrev pub family : String → String → String → List ℕ
family name kind help =
    codes "# HELP lambda_broker_" ++ (codes name ++ (codes " " ++ (codes help ++ (codes "\n# TYPE lambda_broker_" ++ (codes name ++ (codes " " ++ (codes kind ++ codes "\n")))))))

-- a name, and one with a label
abbrev pub plain : String → List ℕ
plain name = codes "lambda_broker_" ++ codes name

abbrev pub labelled : String → String → String → List ℕ
labelled name label value = plain name ++ (codes "{" ++ (codes label ++ (codes "=\"" ++ (codes value ++ codes "\"}"))))

abbrev pub first : List ℕ → List ℕ → Metric → Line
first begins name metric = record { head = begins; name = name; metric = metric }

abbrev pub more : List ℕ → Metric → Line
more name metric = record { head = []; name = name; metric = metric }

-- ## The table

-- what is wrong
abbrev pub problem_lines : List Line
problem_lines =
    first (family "problem" "gauge" "1 where this is wrong, else 0.") (labelled "problem" "reason" "disk_hangs") (metric.Problem 0)
    ∷ more (labelled "problem" "reason" "clock_is_behind") (metric.Problem 1)
    ∷ more (labelled "problem" "reason" "clock_is_held_back") (metric.Problem 2)
    ∷ more (labelled "problem" "reason" "events_expired_by_a_jump") (metric.Problem 3)
    ∷ more (labelled "problem" "reason" "nobody_polls") (metric.Problem 4)
    ∷ more (labelled "problem" "reason" "environment_hangs") (metric.Problem 5)
    ∷ more (labelled "problem" "reason" "nothing_ends") (metric.Problem 6)
    ∷ more (labelled "problem" "reason" "most_attempts_fail") (metric.Problem 7)
    ∷ more (labelled "problem" "reason" "commits_are_slow") (metric.Problem 8)
    ∷ more (labelled "problem" "reason" "all_busy") (metric.Problem 9)
    ∷ more (labelled "problem" "reason" "backlog_grows") (metric.Problem 10)
    ∷ more (labelled "problem" "reason" "records_not_collected") (metric.Problem 11)
    ∷ more (labelled "problem" "reason" "table_full") (metric.Problem 12)
    ∷ more (labelled "problem" "reason" "table_nearly_full") (metric.Problem 13)
    ∷ more (labelled "problem" "reason" "callers_are_refused") (metric.Problem 14)
    ∷ more (labelled "problem" "reason" "events_expire") (metric.Problem 15)
    ∷ []

-- that a flush hangs
abbrev pub stalled_lines : List Line
stalled_lines =
    first (family "problem" "gauge" "1 where this is wrong, else 0.") (labelled "problem" "reason" "disk_hangs") (metric.Problem 0) ∷ []

-- where the events stand
abbrev pub held_lines : List Line
held_lines =
    first (family "events" "gauge" "Events that are held, by where they stand.") (labelled "events" "standing" "waiting") (metric.Held held.Waiting)
    ∷ more (labelled "events" "standing" "due_again") (metric.Held held.DueAgain)
    ∷ more (labelled "events" "standing" "running") (metric.Held held.Running)
    ∷ more (labelled "events" "standing" "success") (metric.Held held.Success)
    ∷ more (labelled "events" "standing" "retries_exhausted") (metric.Held held.RetriesExhausted)
    ∷ more (labelled "events" "standing" "event_age_exceeded") (metric.Held held.EventAgeExceeded)
    ∷ []

-- how old the oldest are, and what waits
abbrev pub wait_lines : List Line
wait_lines =
    first (family "oldest_wait_age_seconds" "gauge" "Age of the oldest event that waits, 0 where none does.") (plain "oldest_wait_age_seconds") (metric.Wait wait.OldestWait)
    ∷ first (family "oldest_record_age_seconds" "gauge" "Time since the oldest record that is held was made, 0 where none is.") (plain "oldest_record_age_seconds") (metric.Wait wait.OldestRecord)
    ∷ first (family "pending_commands" "gauge" "Commands that are issued and not yet durable.") (plain "pending_commands") (metric.Wait wait.Pending)
    ∷ first (family "open_slots" "gauge" "Requests that wait for their reply.") (plain "open_slots") (metric.Wait wait.OpenSlots)
    ∷ first (family "parked_polls" "gauge" "Long polls that wait for something to tell.") (plain "parked_polls") (metric.Wait wait.ParkedPolls)
    ∷ []

-- the phases of the environments
abbrev pub phase_lines : List Line
phase_lines =
    first (family "environments" "gauge" "Environments, by phase.") (labelled "environments" "phase" "init") (metric.Phase phase.Init)
    ∷ more (labelled "environments" "phase" "ready") (metric.Phase phase.Ready)
    ∷ more (labelled "environments" "phase" "busy") (metric.Phase phase.Busy)
    ∷ more (labelled "environments" "phase" "closing") (metric.Phase phase.Closing)
    ∷ []

-- what became of commands, events and attempts
abbrev pub life_lines : List Line
life_lines =
    first (family "commands_issued_total" "counter" "Commands that were issued.") (plain "commands_issued_total") (metric.Life life.Issued)
    ∷ first (family "commands_durable_total" "counter" "Commands that are durable.") (plain "commands_durable_total") (metric.Life life.Durable)
    ∷ first (family "events_accepted_total" "counter" "Events that were accepted.") (plain "events_accepted_total") (metric.Life life.Accepted)
    ∷ first (family "events_ended_total" "counter" "Events that ended, by outcome.") (labelled "events_ended_total" "outcome" "success") (metric.Life life.Success)
    ∷ more (labelled "events_ended_total" "outcome" "retries_exhausted") (metric.Life life.RetriesExhausted)
    ∷ more (labelled "events_ended_total" "outcome" "event_age_exceeded") (metric.Life life.EventAgeExceeded)
    ∷ first (family "records_collected_total" "counter" "Records that were collected.") (plain "records_collected_total") (metric.Life life.Collected)
    ∷ first (family "attempts_started_total" "counter" "Attempts that were started.") (plain "attempts_started_total") (metric.Life life.Started)
    ∷ first (family "attempts_failed_total" "counter" "Attempts that failed.") (plain "attempts_failed_total") (metric.Life life.Failed)
    ∷ first (family "attempts_throttled_total" "counter" "Attempts that were throttled.") (plain "attempts_throttled_total") (metric.Life life.Throttled)
    ∷ first (family "attempts_interrupted_total" "counter" "Attempts that were interrupted.") (plain "attempts_interrupted_total") (metric.Life life.Interrupted)
    ∷ []

-- the events that took at most so long
abbrev pub life_bucket : String → List ℕ
life_bucket bound = labelled "event_seconds_bucket" "le" bound

-- how long events took from their acceptance to their end
abbrev pub duration_lines : List Line
duration_lines =
    first (family "event_seconds" "histogram" "Time from the acceptance of an event to its end.") (life_bucket "0.01") (metric.Event (time.Within 0))
    ∷ more (life_bucket "0.1") (metric.Event (time.Within 1))
    ∷ more (life_bucket "1") (metric.Event (time.Within 2))
    ∷ more (life_bucket "10") (metric.Event (time.Within 3))
    ∷ more (life_bucket "60") (metric.Event (time.Within 4))
    ∷ more (life_bucket "300") (metric.Event (time.Within 5))
    ∷ more (life_bucket "3600") (metric.Event (time.Within 6))
    ∷ more (life_bucket "21600") (metric.Event (time.Within 7))
    ∷ more (life_bucket "+Inf") (metric.Event time.All)
    ∷ more (plain "event_seconds_sum") (metric.Event time.Time)
    ∷ more (plain "event_seconds_count") (metric.Event time.All)
    ∷ []

-- the requests that were refused
abbrev pub refusal_lines : List Line
refusal_lines =
    first (family "refused_total" "counter" "Requests that were refused, by reason.") (labelled "refused_total" "reason" "bad_request") (metric.Refusal refusal.BadRequest)
    ∷ more (labelled "refused_total" "reason" "not_found") (metric.Refusal refusal.NotFound)
    ∷ more (labelled "refused_total" "reason" "conflict") (metric.Refusal refusal.Conflict)
    ∷ more (labelled "refused_total" "reason" "too_large") (metric.Refusal refusal.TooLarge)
    ∷ more (labelled "refused_total" "reason" "too_many") (metric.Refusal refusal.TooMany)
    ∷ more (labelled "refused_total" "reason" "unavailable") (metric.Refusal refusal.Unavailable)
    ∷ more (labelled "refused_total" "reason" "other") (metric.Refusal refusal.Other)
    ∷ more (labelled "refused_total" "reason" "bad_head") (metric.Unread unread.BadHead)
    ∷ more (labelled "refused_total" "reason" "head_too_large") (metric.Unread unread.HeadTooLarge)
    ∷ more (labelled "refused_total" "reason" "head_cut_off") (metric.Unread unread.HeadCutOff)
    ∷ more (labelled "refused_total" "reason" "head_late") (metric.Unread unread.HeadLate)
    ∷ more (labelled "refused_total" "reason" "body_cut_off") (metric.Unread unread.BodyCutOff)
    ∷ more (labelled "refused_total" "reason" "body_late") (metric.Unread unread.BodyLate)
    ∷ more (labelled "refused_total" "reason" "forbidden") (metric.Unread unread.Forbidden)
    ∷ []

-- the requests of a kind that took at most so long
abbrev pub bucket : String → String → List ℕ
bucket kind bound =
    plain "request_seconds_bucket" ++ (codes "{kind=\"" ++ (codes kind ++ (codes "\",le=\"" ++ (codes bound ++ codes "\"}"))))

-- how long the requests of a kind took
abbrev pub reply_lines : List ℕ → String → ReplyMetric → List Line
reply_lines begins kind of =
    first begins (bucket kind "0.001") (metric.Reply of (time.Within 0))
    ∷ more (bucket kind "0.0025") (metric.Reply of (time.Within 1))
    ∷ more (bucket kind "0.005") (metric.Reply of (time.Within 2))
    ∷ more (bucket kind "0.01") (metric.Reply of (time.Within 3))
    ∷ more (bucket kind "0.025") (metric.Reply of (time.Within 4))
    ∷ more (bucket kind "0.1") (metric.Reply of (time.Within 5))
    ∷ more (bucket kind "0.5") (metric.Reply of (time.Within 6))
    ∷ more (bucket kind "2.5") (metric.Reply of (time.Within 7))
    ∷ more (bucket kind "+Inf") (metric.Reply of time.All)
    ∷ more (labelled "request_seconds_sum" "kind" kind) (metric.Reply of time.Time)
    ∷ more (labelled "request_seconds_count" "kind" kind) (metric.Reply of time.All)
    ∷ []

-- the connections and the requests of ports
abbrev pub port_lines : List Line
port_lines =
    first (family "open_connections" "gauge" "Connections that are open, by port.") (labelled "open_connections" "port" "callers") (metric.Open open_of.Callers)
    ∷ more (labelled "open_connections" "port" "environments") (metric.Open open_of.Environments)
    ∷ more (labelled "open_connections" "port" "operator") (metric.Open open_of.Operator)
    ∷ (reply_lines (family "request_seconds" "histogram" "Time from the head of a request to its reply, by kind.") "call" reply.Call
    ++ (reply_lines [] "report" reply.Report ++ reply_lines [] "poll" reply.Poll))

-- how long commits took
abbrev pub commit_lines : List Line
commit_lines =
    first (family "commit_seconds" "histogram" "Time that a commit took.") (labelled "commit_seconds_bucket" "le" "0.001") (metric.Commit (time.Within 0))
    ∷ more (labelled "commit_seconds_bucket" "le" "0.0025") (metric.Commit (time.Within 1))
    ∷ more (labelled "commit_seconds_bucket" "le" "0.005") (metric.Commit (time.Within 2))
    ∷ more (labelled "commit_seconds_bucket" "le" "0.01") (metric.Commit (time.Within 3))
    ∷ more (labelled "commit_seconds_bucket" "le" "0.025") (metric.Commit (time.Within 4))
    ∷ more (labelled "commit_seconds_bucket" "le" "0.1") (metric.Commit (time.Within 5))
    ∷ more (labelled "commit_seconds_bucket" "le" "0.5") (metric.Commit (time.Within 6))
    ∷ more (labelled "commit_seconds_bucket" "le" "2.5") (metric.Commit (time.Within 7))
    ∷ more (labelled "commit_seconds_bucket" "le" "+Inf") (metric.Commit time.All)
    ∷ more (plain "commit_seconds_sum") (metric.Commit time.Time)
    ∷ more (plain "commit_seconds_count") (metric.Commit time.All)
    ∷ []

-- the disk and the process
abbrev pub disk_lines : List Line
disk_lines =
    first (family "switches_total" "counter" "Switches to the other segment of the disk.") (plain "switches_total") (metric.State state.Switches)
    ∷ first (family "written_bytes_total" "counter" "Bytes that were written to the disk.") (plain "written_bytes_total") (metric.State state.WrittenBytes)
    ∷ first (family "generation" "gauge" "Generation of the segment that is written.") (plain "generation") (metric.State state.Generation)
    ∷ first (family "disk_bytes" "gauge" "Size of the disk.") (plain "disk_bytes") (metric.State state.Bytes)
    ∷ first (family "segment_free_bytes" "gauge" "Room that is left in the segment that is written.") (plain "segment_free_bytes") (metric.State state.FreeBytes)
    ∷ first (family "process_resident_memory_bytes" "gauge" "Memory of the process that is resident.") (plain "process_resident_memory_bytes") (metric.State state.ResidentBytes)
    ∷ first (family "process_start_time_seconds" "gauge" "When the broker was started, since 1970.") (plain "process_start_time_seconds") (metric.State state.StartedAt)
    ∷ first (family "device_fault" "gauge" "1 once the disk has failed, else 0.") (plain "device_fault") (metric.State state.Fault)
    ∷ []

-- whether the broker stops
abbrev pub stopping_lines : List Line
stopping_lines = first (family "stopping" "gauge" "1 while the broker stops, else 0.") (plain "stopping") (metric.State state.Stopping) ∷ []

-- what was noticed of the premises
abbrev pub premise_lines : List Line
premise_lines =
    first (family "flush_seconds" "gauge" "Time that the flush has taken that is under way, once these are five seconds, else 0.") (plain "flush_seconds") (metric.Notice notice.Flush)
    ∷ first (family "clock_step_seconds" "gauge" "Time by which the clock was set last, below 0 where it was set back.") (plain "clock_step_seconds") (metric.Notice notice.ClockStep)
    ∷ first (family "clock_steps_total" "counter" "Times that the clock was set.") (plain "clock_steps_total") (metric.Notice notice.ClockSteps)
    ∷ first (family "lines_dropped_total" "counter" "Lines that standard error did not take.") (plain "lines_dropped_total") (metric.Notice notice.LinesDropped)
    ∷ []

-- what is allowed at most
abbrev pub limit_lines : List Line
limit_lines =
    first (family "table_limit" "gauge" "Events that are held at most.") (plain "table_limit") (metric.Limit limit.Events)
    ∷ first (family "attempts_limit" "gauge" "Attempts that run at once at most.") (plain "attempts_limit") (metric.Limit limit.Concurrency)
    ∷ first (family "timeout_seconds" "gauge" "Time that an attempt may take.") (plain "timeout_seconds") (metric.Limit limit.Timeout)
    ∷ first (family "retries_limit" "gauge" "Retries of a new event.") (plain "retries_limit") (metric.Limit limit.Retries)
    ∷ first (family "age_limit_seconds" "gauge" "Age at which a new event is given up.") (plain "age_limit_seconds") (metric.Limit limit.Age)
    ∷ first (family "payload_limit_bytes" "gauge" "Greatest payload.") (plain "payload_limit_bytes") (metric.Limit limit.Payload)
    ∷ first (family "response_limit_bytes" "gauge" "Greatest response.") (plain "response_limit_bytes") (metric.Limit limit.Response)
    ∷ []

unfoldable pub lines_of : Section → List Line
lines_of section.Problems = problem_lines
lines_of section.Stalled = stalled_lines
lines_of section.Held = held_lines
lines_of section.Waits = wait_lines
lines_of section.Environments = phase_lines
lines_of section.Lives = life_lines
lines_of section.Durations = duration_lines
lines_of section.Refusals = refusal_lines
lines_of section.Ports = port_lines
lines_of section.Commits = commit_lines
lines_of section.Disk = disk_lines
lines_of section.Stopping = stopping_lines
lines_of section.Premises = premise_lines
lines_of section.Limits = limit_lines

abbrev pub sections : List Section
sections = section.Problems ∷ section.Held ∷ section.Waits ∷ section.Environments ∷ section.Lives ∷ section.Durations ∷ section.Refusals ∷ section.Ports ∷ section.Commits ∷ section.Disk ∷ section.Stopping ∷ section.Premises ∷ section.Limits ∷ []

-- those that need no look at the table of events
abbrev pub stalled_sections : List Section
stalled_sections = section.Stalled ∷ section.Refusals ∷ section.Ports ∷ section.Commits ∷ section.Disk ∷ section.Premises ∷ []
