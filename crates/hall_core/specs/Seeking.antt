-- What is shown of a table's rows to one who seeks this.
use Rattle.std.specs.Prelude.{◌≡◌, ℕ, ◌<◌, ◌≤◌, Bool, true, false, ◌&&◌, List, [], ◌∷◌, ◌++◌, length, Option, Some, None, find, if◌then◌else◌}
use Rattle.invoke_records.specs.declared.row.EventRow.{EventRow}
use Rattle.async_core.specs.declared.choice.Side.{Side}
use Rattle.async_core.specs.declared.choice.Side.TheVariants as side
use Rattle.async_core.specs.declared.choice.Order.TheVariants as order
use Rattle.async_core.specs.Choice.{IsChosen}
use Rattle.async_core.specs.Rules.{has_id}
use Rattle.hall_core.specs.declared.seeking.Sides.{Sides}
use Rattle.hall_core.specs.declared.seeking.Sought.{Sought}
use Rattle.hall_core.specs.declared.seeking.Sought.TheVariants as sought

-- ## The first that ended

-- each is the first of the rows that ended on this side behind the one before it, which a command of this number ended
abbrev pub AreNextEnded : Side → ℕ → List EventRow → List EventRow → Type 0
AreNextEnded side behind rows [] = Unit {0}
AreNextEnded side behind rows (r ∷ shown) = IsChosen (order.EndedBehind side behind) rows (Some r) × AreNextEnded side r.last_number rows shown

-- the number of the last one's last command
abbrev pub last_of : ℕ → List EventRow → ℕ
last_of behind [] = behind
last_of behind (r ∷ shown) = last_of r.last_number shown

-- the first that ended on this side, so many at most: where fewer are shown there is no other
pub record AreFirstEnded (side : Side) (most : ℕ) (rows shown : List EventRow) : Type 0 where
  pub each : AreNextEnded side 0 rows shown
  pub few : length shown ≤ most
  pub all : length shown < most → IsChosen (order.EndedBehind side (last_of 0 shown)) rows None

-- those, where they are sought, else none
abbrev pub AreFirstIf : Bool → Side → ℕ → List EventRow → List EventRow → Type 0
AreFirstIf true side most rows shown = AreFirstEnded side most rows shown
AreFirstIf false side most rows shown = shown ≡ []

-- how many of a side are shown at most
abbrev pub most_of : Sides → ℕ
most_of sides = if sides.success && sides.failure then 32 else 64

-- those of success, and behind them the others
abbrev pub AreFirstOf : Sides → List EventRow → List EventRow → Type 0
AreFirstOf sides rows shown =
    (successes failures : List EventRow) × (shown ≡ successes ++ failures)
    × AreFirstIf sides.success side.Success (most_of sides) rows successes
    × AreFirstIf sides.failure side.Failure (most_of sides) rows failures

-- ## What is shown

abbrev pub row_or_none : Option EventRow → List EventRow
row_or_none None = []
row_or_none (Some r) = r ∷ []

-- these rows, of those of a table
abbrev pub AreRowsFor : Sought → List EventRow → List EventRow → Type 0
AreRowsFor sought.Numbers rows shown = shown ≡ []
AreRowsFor (sought.Event id) rows shown = shown ≡ row_or_none (find (has_id id) rows)
AreRowsFor (sought.Ended sides) rows shown = AreFirstOf sides rows shown
AreRowsFor sought.Rows rows shown = shown ≡ rows

-- the rows whose numbers are shown
abbrev pub counted_for : Sought → List EventRow → List EventRow
counted_for sought.Numbers rows = rows
counted_for (sought.Event id) rows = []
counted_for (sought.Ended sides) rows = []
counted_for sought.Rows rows = rows
