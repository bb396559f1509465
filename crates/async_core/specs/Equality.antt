-- When two tables have the same snapshot, and when they have the same settings too, as tests: field by field.
use Rattle.std.specs.Prelude.{Bool, true, false, ◌&&◌, ◌==◌}
use Rattle.std.specs.Str.{bytes_eq}
use Rattle.std.specs.Cmp.Lexicographic.{pointwise}
use Rattle.retry_rules.specs.declared.policy.RetryPolicy.{RetryPolicy}
use Rattle.retry_rules.specs.declared.settings.Settings.{Settings}
use Rattle.invoke_records.specs.declared.snapshot.Snapshot.{Snapshot}
use Rattle.invoke_records.specs.declared.row.Outcome.{Outcome}
use Rattle.invoke_records.specs.declared.row.Outcome.TheVariants.{Success, RetriesExhausted, EventAgeExceeded}
use Rattle.invoke_records.specs.declared.row.Answer.{Answer}
use Rattle.invoke_records.specs.declared.row.Answer.TheVariants as answer
use Rattle.invoke_records.specs.declared.row.EventRow.{EventRow}
use Rattle.invoke_records.specs.declared.row.Standing.{Standing}
use Rattle.invoke_records.specs.declared.row.Standing.TheVariants as standing
use Rattle.async_core.specs.State.{State}

abbrev pub same_outcome : Outcome → Outcome → Bool
same_outcome Success Success = true
same_outcome RetriesExhausted RetriesExhausted = true
same_outcome EventAgeExceeded EventAgeExceeded = true
same_outcome a b = false

abbrev pub same_standing : Standing → Standing → Bool
same_standing standing.Unknown standing.Unknown = true
same_standing (standing.Waiting due) (standing.Waiting other) = due == other
same_standing (standing.DueAgain due) (standing.DueAgain other) = due == other
same_standing (standing.Running environment deadline) (standing.Running e d) = (environment == e) && (deadline == d)
same_standing (standing.Ended outcome at) (standing.Ended o m) = same_outcome outcome o && (at == m)
same_standing a b = false

abbrev pub same_answer : Answer → Answer → Bool
same_answer answer.None answer.None = true
same_answer (answer.Response a) (answer.Response b) = bytes_eq a b
same_answer (answer.Error a) (answer.Error b) = bytes_eq a b
same_answer a b = false

abbrev pub same_policy : RetryPolicy → RetryPolicy → Bool
same_policy a b = (a.retries == b.retries) && (a.age == b.age)

-- the numbers of an event's life
abbrev pub same_numbers : EventRow → EventRow → Bool
same_numbers a b =
    (a.accepted == b.accepted) && (a.number == b.number) && (a.last_number == b.last_number)
    && (a.starts == b.starts) && (a.failures == b.failures) && (a.push_backs == b.push_backs)

abbrev pub same_row : EventRow → EventRow → Bool
same_row a b =
    bytes_eq a.id b.id && same_numbers a b && same_policy a.policy b.policy && same_standing a.standing b.standing
    && bytes_eq a.payload b.payload && same_answer a.answer b.answer

-- the rules that events are judged by
abbrev pub same_rules : Settings → Settings → Bool
same_rules a b =
    (a.retries == b.retries) && (a.age == b.age) && (a.timeout == b.timeout) && (a.concurrency == b.concurrency)
    && (a.environments == b.environments) && (a.events == b.events) && (a.payload == b.payload) && (a.response == b.response)

abbrev pub same_settings : Settings → Settings → Bool
same_settings a b = same_rules a b && bytes_eq a.name b.name && bytes_eq a.handler b.handler && bytes_eq a.arn b.arn

abbrev pub same_table : Snapshot → Snapshot → Bool
same_table a b =
    (a.number == b.number) && (a.last_moment == b.last_moment) && same_policy a.policy b.policy && pointwise same_row a.rows b.rows

-- two tables are equal where their snapshots are
unfoldable pub same_snapshot : State → State → Bool
same_snapshot a b = same_table a.table b.table

-- and the same where their settings are equal too
unfoldable pub same_state : State → State → Bool
same_state a b = same_settings a.settings b.settings && same_table a.table b.table
