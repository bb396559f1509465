-- How many events stand where, and since when the oldest of them does.
use Rattle.std.specs.Prelude.{◌≡◌, ℕ, List, Option, Some, None, length, count_by, option_map, find, min}
use Rattle.std.specs.List.{filter_map, reduce}
use Rattle.invoke_records.specs.declared.row.EventRow.{EventRow}
use Rattle.invoke_records.specs.declared.row.Outcome.TheVariants.{Success, RetriesExhausted, EventAgeExceeded}
use Rattle.invoke_records.specs.declared.row.Standing.{Standing}
use Rattle.invoke_records.specs.declared.row.Standing.TheVariants.{Ended}
use Rattle.async_core.specs.Standings.{is_running}
use Rattle.operator_view.specs.Standings.{is_waiting, is_due_again, waits, ended_with, stands}
use Rattle.operator_view.specs.declared.numbers.Census.{Census}

-- the numbers of these events
pub record IsCensus (rows : List EventRow) (census : Census) : Type 0 where
  pub held : census.held ≡ length rows
  pub waiting : census.waiting ≡ count_by (stands is_waiting) rows
  pub due_again : census.due_again ≡ count_by (stands is_due_again) rows
  pub running : census.running ≡ count_by (stands is_running) rows
  pub success : census.success ≡ count_by (stands (ended_with Success)) rows
  pub retries_exhausted : census.retries_exhausted ≡ count_by (stands (ended_with RetriesExhausted)) rows
  pub event_age_exceeded : census.event_age_exceeded ≡ count_by (stands (ended_with EventAgeExceeded)) rows

-- when the first of them that waits was accepted
abbrev pub oldest_waiting : List EventRow → Option ℕ
oldest_waiting rows = option_map (λ (r : EventRow). r.accepted) (find (stands waits) rows)

-- when it ended, if it has
abbrev pub end_of : Standing → Option ℕ
end_of (Ended outcome at) = Some at
end_of other = None

-- the moments at which those that ended did so
abbrev pub ends : List EventRow → List ℕ
ends rows = filter_map (λ (r : EventRow). end_of r.standing) rows

-- the least of some moments, if there are any
abbrev pub least : List ℕ → Option ℕ
least moments = reduce min moments
