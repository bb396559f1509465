-- How many of a table's events stand where.
use Rattle.std.specs.Prelude.{◌≡◌, Bool, true, false, List, length, count_by}
use Rattle.invoke_records.specs.declared.row.EventRow.{EventRow}
use Rattle.invoke_records.specs.declared.row.Outcome.TheVariants.{Success}
use Rattle.invoke_records.specs.declared.row.Standing.{Standing}
use Rattle.invoke_records.specs.declared.row.Standing.TheVariants.{Waiting, DueAgain, Ended}
use Rattle.async_core.specs.Standings.{is_running}
use Rattle.audit_report.specs.declared.counting.Counts.{Counts}

-- it waits for an attempt, the first or another
abbrev pub is_waiting : Standing → Bool
is_waiting (Waiting due) = true
is_waiting (DueAgain due) = true
is_waiting other = false

abbrev pub is_success : Standing → Bool
is_success (Ended Success at) = true
is_success other = false

-- it ended, and not with success
abbrev pub is_failure : Standing → Bool
is_failure (Ended Success at) = false
is_failure (Ended outcome at) = true
is_failure other = false

-- an event that stands so
abbrev pub stands : (Standing → Bool) → EventRow → Bool
stands test row = test row.standing

-- the counts of these events
pub record AreCounts (rows : List EventRow) (counts : Counts) : Type 0 where
  pub held : counts.held ≡ length rows
  pub waiting : counts.waiting ≡ count_by (stands is_waiting) rows
  pub running : counts.running ≡ count_by (stands is_running) rows
  pub success : counts.success ≡ count_by (stands is_success) rows
  pub failure : counts.failure ≡ count_by (stands is_failure) rows
