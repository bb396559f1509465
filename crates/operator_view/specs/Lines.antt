-- Destination records of a page, one a line, as many as fit into so many bytes.
use Rattle.std.specs.Prelude.{◌≡◌, ℕ, ◌==◌, ◌||◌, ◌+◌, ◌<◌, ◌≤◌, nat_lt, List, [], ◌∷◌, ◌++◌, length, map, take, Option, slice_get, if◌then◌else◌}
use Rattle.std.specs.List.{concat}
use Rattle.std.specs.Option.{option_and_then, option_map_or}
use Rattle.retry_rules.specs.declared.settings.Settings.{Settings}
use Rattle.invoke_records.specs.declared.row.EventRow.{EventRow}
use Rattle.async_core.specs.Readers.{Ending}
use Rattle.destination_json.specs.Record.{record_text}
use Rattle.operator_view.specs.EventText.{ending_of}
use Rattle.operator_view.specs.Page.{last_id}
use Rattle.operator_view.specs.declared.page.Page.{Page}

-- a line break becomes a space: in a JSON text it stands between its parts alone, and says nothing
abbrev pub flat : ℕ → ℕ
flat byte = if (byte == 10) || (byte == 13) then 32 else byte

-- a record without line breaks, and the end of its line
abbrev pub line_text : Settings → Ending → List ℕ
line_text s e = map flat (record_text s e) ++ 10 ∷ []

-- the line of the row at a place; nothing where that has no record, as in no page of records
abbrev pub line_at : Settings → List EventRow → ℕ → List ℕ
line_at s rows place = option_map_or (line_text s) (option_and_then ending_of (slice_get rows place)) []

-- the lines of the first so many places
abbrev pub lines_text : Settings → List EventRow → List ℕ → ℕ → List ℕ
lines_text s rows places count = concat (map (line_at s rows) (take count places))

-- what is told of a page in at most so many bytes: the lines of so many of its places
pub record Tells (s : Settings) (rows : List EventRow) (page : Page) (most : ℕ) (text : List ℕ) (next : Option (List ℕ)) : Type 0 where
  pub count : ℕ
  pub count_within : count ≤ length page.places.items
  pub lines : text ≡ lines_text s rows page.places.items count
  -- only the first line may be longer
  pub fits : 1 < count → length text ≤ most
  -- with another line it would not fit
  pub full : count < length page.places.items → (0 < count) × (most < length (lines_text s rows page.places.items (count + 1)))
  pub next_is : next ≡ (if nat_lt count (length page.places.items) then last_id rows (take count page.places.items) else page.next)
