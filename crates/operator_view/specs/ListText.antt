-- The text of a page of events, as JSON without spaces: `{"events":[EVENT,..],"next":"ID"}`, or `null` for the id.
use Rattle.std.specs.Prelude.{ℕ, zero, suc, List, [], ◌∷◌, ◌++◌, map, Option, Some, None, slice_get, codes}
use Rattle.std.specs.List.{join_with_byte}
use Rattle.std.specs.Option.{option_map_or}
use Rattle.invoke_records.specs.declared.row.EventRow.{EventRow}
use Rattle.destination_json.specs.Record.{id_text}
use Rattle.operator_view.specs.EventText.{event_text}

-- the event of the row at a place; `null` where there is none, as in no page of these rows
abbrev pub text_at : List EventRow → ℕ → List ℕ
text_at rows place = option_map_or event_text (slice_get rows place) (codes "null")

-- events, with commas between them
abbrev pub events_text : List EventRow → List ℕ → List ℕ
events_text rows places = join_with_byte 44 (map (text_at rows) places)

abbrev pub next_text : Option (List ℕ) → List ℕ
next_text None = codes "null"
next_text (Some id) = codes "\"" ++ (id_text id ++ codes "\"")

-- what stands before the event that is shown behind so many others
abbrev pub separator : ℕ → List ℕ
separator zero = []
separator (suc n) = 44 ∷ []

-- a page
abbrev pub list_text : List EventRow → List ℕ → Option (List ℕ) → List ℕ
list_text rows places next =
    codes "{\"events\":[" ++ (events_text rows places ++ (codes "],\"next\":" ++ (next_text next ++ codes "}")))
