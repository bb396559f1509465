-- The next moment of an office.
use Rattle.std.specs.Prelude.{ℕ, Option}
use Rattle.async_core.specs.NextMoment.{IsNextMoment}
use Rattle.hall_core.specs.Hall.{HallView}

-- the first moment after this one at which an event of this hall moves otherwise, if there is one
abbrev pub IsNextMomentOf : HallView → ℕ → Option ℕ → Type 0
IsNextMomentOf hall now next = IsNextMoment hall.issuer.table.rows now next
