-- The next moment at which an event moves otherwise than now, by time alone.
use Rattle.std.specs.Prelude.{◌≡◌, ℕ, ◌+◌, ◌<◌, ◌≤◌, min, Bool, List, Option, Some, None, All, Contains}
use Rattle.invoke_records.specs.declared.row.EventRow.{EventRow}
use Rattle.invoke_records.specs.declared.row.Standing.{Standing}
use Rattle.invoke_records.specs.declared.row.Standing.TheVariants as standing
use Rattle.async_core.specs.Choice.{move_by, ripe_by}
use Rattle.async_core.specs.Keys.{IsLeastBy}
use Rattle.async_core.specs.Rules.{too_old_at}

-- what an event would do is the same at both moments, however many attempts run and whether or not an environment is ready
abbrev pub MovesAlike : ℕ → ℕ → EventRow → Type 0
MovesAlike now later r =
    (is_full has_ready : Bool)
    → move_by is_full has_ready (too_old_at r) later r.standing ≡ move_by is_full has_ready (too_old_at r) now r.standing

-- the first moment after this one at which an event moves otherwise, or none where each goes on for ever as it does now
abbrev pub IsNextMoment : List EventRow → ℕ → Option ℕ → Type 0
IsNextMoment rows now None = (later : ℕ) → now ≤ later → All (MovesAlike now later) rows
IsNextMoment rows now (Some next) =
    (now < next) × ((later : ℕ) → now ≤ later → later < next → All (MovesAlike now later) rows)
    × ((row : EventRow) × Contains rows row × (MovesAlike now next row → ⊥))

-- what came to stand there at this moment is due at once, or a second later at the earliest. It may grow too old sooner
abbrev pub WaitsASecond : ℕ → Standing → Type 0
WaitsASecond time (standing.Waiting due) = due ≡ time
WaitsASecond time (standing.DueAgain due) = time + 1000 ≤ due
WaitsASecond time (standing.Running environment deadline) = time + 1000 ≤ deadline
WaitsASecond time other = Unit {0}

-- ## Steps of private functions

-- the moment from which an event has something to do
abbrev pub ripe_of : EventRow → ℕ
ripe_of r = ripe_by (too_old_at r) r.standing

-- what view says of the row of least rank, or none where no row has a rank
abbrev pub IsFirstSeen : (EventRow → Option (ℕ × ℕ)) → List EventRow → (EventRow → ℕ) → Option ℕ → Type 0
IsFirstSeen ranked rows view None = All (λ r. ranked r ≡ None) rows
IsFirstSeen ranked rows view (Some x) = (row : EventRow) × (x ≡ view row) × IsLeastBy ranked rows row

-- the earlier of two moments, as far as there are any
abbrev pub earlier : Option ℕ → Option ℕ → Option ℕ
earlier None other = other
earlier (Some one) None = Some one
earlier (Some one) (Some other) = Some (min one other)
