-- The destination records of all events that ended, one a line.
use Rattle.std.specs.Prelude.{◌≡◌, ℕ, List, map, None}
use Rattle.std.specs.List.{concat}
use Rattle.std.specs.List.Sorted.{IsPermutation, IsNonDecreasingBy}
use Rattle.retry_rules.specs.declared.settings.Settings.{Settings}
use Rattle.invoke_records.specs.declared.row.EventRow.{EventRow}
use Rattle.operator_view.specs.Lines.{line_at}
use Rattle.operator_view.specs.Page.{record_places, number_at}

-- the lines of all of these events that ended, with success or without, in the order of the commands that ended them
pub record AreRecords (s : Settings) (rows : List EventRow) (text : List ℕ) : Type 0 where
  pub ordered : List ℕ
  pub same : IsPermutation (record_places None None rows) ordered
  pub ascending : IsNonDecreasingBy (number_at rows) ordered
  pub lines : text ≡ concat (map (line_at s rows) ordered)
