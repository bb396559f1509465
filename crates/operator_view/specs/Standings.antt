-- Which events an operator asks for, by where they stand.
use Rattle.std.specs.Prelude.{Bool, true, false, Option, Some, None}
use Rattle.invoke_records.specs.declared.row.EventRow.{EventRow}
use Rattle.invoke_records.specs.declared.row.Outcome.{Outcome}
use Rattle.invoke_records.specs.declared.row.Outcome.TheVariants.{Success, RetriesExhausted, EventAgeExceeded}
use Rattle.invoke_records.specs.declared.row.Standing.{Standing}
use Rattle.invoke_records.specs.declared.row.Standing.TheVariants.{Waiting, DueAgain, Ended}
use Rattle.async_core.specs.declared.choice.Side.{Side}
use Rattle.async_core.specs.declared.choice.Side.TheVariants as side
use Rattle.async_core.specs.Standings.{is_running, is_ended}
use Rattle.operator_view.specs.declared.standings.Which.{Which}
use Rattle.operator_view.specs.declared.standings.Which.TheVariants as which

-- it waits for its first attempt
abbrev pub is_waiting : Standing → Bool
is_waiting (Waiting due) = true
is_waiting other = false

-- it waits for another one
abbrev pub is_due_again : Standing → Bool
is_due_again (DueAgain due) = true
is_due_again other = false

-- it waits for an attempt, the first or another
abbrev pub waits : Standing → Bool
waits (Waiting due) = true
waits (DueAgain due) = true
waits other = false

-- it ended so
abbrev pub ended_with : Outcome → Standing → Bool
ended_with Success (Ended Success at) = true
ended_with RetriesExhausted (Ended RetriesExhausted at) = true
ended_with EventAgeExceeded (Ended EventAgeExceeded at) = true
ended_with outcome other = false

-- it ended, and not with success
abbrev pub is_failure : Standing → Bool
is_failure (Ended Success at) = false
is_failure (Ended outcome at) = true
is_failure other = false

-- it is among those that are asked for
abbrev pub shows : Which → Standing → Bool
shows which.All standing = true
shows which.Waiting standing = waits standing
shows which.Running standing = is_running standing
shows which.Success standing = ended_with Success standing
shows which.Failure standing = is_failure standing

-- it ended on this side, or on either where none is named
abbrev pub ended_on : Option Side → Standing → Bool
ended_on None standing = is_ended standing
ended_on (Some side.Success) standing = ended_with Success standing
ended_on (Some side.Failure) standing = is_failure standing

-- an event that stands so
abbrev pub stands : (Standing → Bool) → EventRow → Bool
stands test row = test row.standing
