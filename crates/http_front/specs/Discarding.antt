-- Which records are collected without being told to anybody.
use Rattle.std.specs.Prelude.{ℕ, Bool, false, List, map, filter}
use Rattle.invoke_records.specs.declared.row.EventRow.{EventRow}
use Rattle.invoke_records.specs.declared.row.Outcome.TheVariants.{Success}
use Rattle.invoke_records.specs.declared.row.Standing.{Standing}
use Rattle.invoke_records.specs.declared.row.Standing.TheVariants.{Ended}
use Rattle.http_front.specs.declared.discarding.Discard.{Discard}

-- an event that stands there has ended, on a side that is discarded
abbrev pub is_unwanted : Discard → Standing → Bool
is_unwanted discard (Ended Success at) = discard.success
is_unwanted discard (Ended outcome at) = discard.failure
is_unwanted discard other = false

-- those of these events
abbrev pub unwanted_ids : Discard → List EventRow → List (List ℕ)
unwanted_ids discard rows = map (λ (r : EventRow). r.id) (filter (λ (r : EventRow). is_unwanted discard r.standing) rows)
