-- Pages of a list of events, by the places at which they stand among the rows. The first row is at place 0.
use Rattle.std.specs.Prelude.{◌≡◌, ℕ, ◌+◌, ◌-◌, Bool, true, ◌&&◌, nat_lt, nat_le, List, length, map, filter, find, take, Option, Some, None, option_map, slice_get, if◌then◌else◌}
use Rattle.std.specs.List.{enumerate_from, position}
use Rattle.std.specs.List.Sorted.{IsPermutation, IsNonDecreasingBy}
use Rattle.std.specs.Option.{option_and_then, option_map_or}
use Rattle.invoke_records.specs.declared.row.EventRow.{EventRow}
use Rattle.async_core.specs.declared.choice.Side.{Side}
use Rattle.async_core.specs.Rules.{has_id}
use Rattle.operator_view.specs.Standings.{shows, ended_on}
use Rattle.operator_view.specs.declared.standings.Which.{Which}
use Rattle.operator_view.specs.declared.page.Page.{Page}

-- the places of the rows that pass a test of place and row, in their order
abbrev pub places_where : (ℕ → EventRow → Bool) → List EventRow → List ℕ
places_where test rows = map (λ (e : ℕ × EventRow). e.0) (filter (λ (e : ℕ × EventRow). test e.0 e.1) (enumerate_from 0 rows))

-- the id of the row at a place, if there is one
abbrev pub id_at : List EventRow → ℕ → Option (List ℕ)
id_at rows place = option_map (λ (r : EventRow). r.id) (slice_get rows place)

-- the id of the row at the last of these places, if there is one
abbrev pub last_id : List EventRow → List ℕ → Option (List ℕ)
last_id rows places = option_and_then (id_at rows) (slice_get places (length places - 1))

-- a page shows the first of these places, at most so many, and names the last one that it shows where more come behind it
pub record IsFirst (rows : List EventRow) (places : List ℕ) (limit : ℕ) (page : Page) : Type 0 where
  pub shown : page.places.items ≡ take limit places
  pub next : page.next ≡ (if nat_lt limit (length places) then last_id rows (take limit places) else None)

-- ## In the order of acceptance, in which the rows stand

-- the place behind this event, if it is held, or the first place where none is named
abbrev pub start_behind : Option (List ℕ) → List EventRow → Option ℕ
start_behind None rows = Some 0
start_behind (Some id) rows = option_map (λ place. place + 1) (position (has_id id) rows)

-- the row at this place is asked for, of those from the start on
abbrev pub is_asked : Which → ℕ → ℕ → EventRow → Bool
is_asked which start place r = nat_le start place && shows which r.standing

-- the places from this one on whose events are asked for
abbrev pub event_places : Which → ℕ → List EventRow → List ℕ
event_places which start rows = places_where (is_asked which start) rows

-- ## In the order of ending: of the commands that ended the events

-- the command that ended this event, if it ended on this side
abbrev pub ending_number : Option Side → EventRow → Option (Option ℕ)
ending_number side r = if ended_on side r.standing then Some (Some r.last_number) else None

-- the command that ended this event, if it is held and ended on this side, or none where no event is named
abbrev pub number_behind : Option Side → Option (List ℕ) → List EventRow → Option (Option ℕ)
number_behind side None rows = Some None
number_behind side (Some id) rows = option_and_then (ending_number side) (find (has_id id) rows)

abbrev pub is_behind : Option ℕ → ℕ → Bool
is_behind None number = true
is_behind (Some behind) number = nat_lt behind number

-- it ended on this side, and behind this command
abbrev pub is_record : Option Side → Option ℕ → EventRow → Bool
is_record side behind r = ended_on side r.standing && is_behind behind r.last_number

-- the places of the events that ended on this side, behind this command
abbrev pub record_places : Option Side → Option ℕ → List EventRow → List ℕ
record_places side behind rows = places_where (λ place r. is_record side behind r) rows

-- the last command of the row at a place
abbrev pub number_at : List EventRow → ℕ → ℕ
number_at rows place = option_map_or (λ (r : EventRow). r.last_number) (slice_get rows place) 0

-- a page of these places as they are put in the order of ending
pub record IsFirstEnded (rows : List EventRow) (places : List ℕ) (limit : ℕ) (page : Page) : Type 0 where
  pub ordered : List ℕ
  pub same : IsPermutation places ordered
  pub ascending : IsNonDecreasingBy (number_at rows) ordered
  pub first : IsFirst rows ordered limit page
