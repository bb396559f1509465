-- The rows by their places, and the ids by which they are found: places ascend in the order of acceptance.
use Rattle.std.specs.Prelude.{◌≡◌, ℕ, ◌<◌, ◌≤◌, Bool, true, false, List, Option, Some, None, IsTrue, IsSome}
use Rattle.std.specs.Ordering.{nat_cmp, ordering_then}
use Rattle.std.specs.Cmp.Lexicographic.{slice_cmp}
use Rattle.std.specs.BTreeMap as tree
use Rattle.std.specs.BTreeSet as sorted
use Rattle.std.specs.BTreeMap.{BTreeMap, insert_entry, is_at}
use Rattle.std.specs.Map.{remove_entry, set_value}
use Rattle.std.specs.BTreeSet.{BTreeSet}
use Rattle.std.specs.declared.cmp.Ordering.{Ordering}
use Rattle.invoke_records.specs.declared.row.EventRow.{EventRow}
use Rattle.async_core.specs.Rules.{has_id}

-- ids first, and then places
abbrev pub by_id : List ℕ × ℕ → List ℕ × ℕ → Ordering
by_id a b = ordering_then (slice_cmp nat_cmp a.0 b.0) (nat_cmp a.1 b.1)

-- the event of this id is at this place
abbrev pub is_named : BTreeSet (List ℕ × ℕ) → List ℕ → ℕ → Bool
is_named ids id place = sorted.contains by_id ids (id, place)

-- the first place of an id
abbrev pub IsFirstPlace : BTreeSet (List ℕ × ℕ) → List ℕ → Option ℕ → Type 0
IsFirstPlace ids id None = (place : ℕ) → is_named ids id place ≡ false
IsFirstPlace ids id (Some first) = (is_named ids id first ≡ true) × ((place : ℕ) → IsTrue (is_named ids id place) → first ≤ place)

-- the row at a place, if there is one, has this id
abbrev pub has_name : List ℕ → Option EventRow → Bool
has_name id None = false
has_name id (Some r) = has_id id r

-- rows at places below the next one, found by their ids
pub record IsHeld (rows : BTreeMap ℕ EventRow) (ids : BTreeSet (List ℕ × ℕ)) (next : ℕ) : Type 0 where
  pub ordered : tree.IsOrdered nat_cmp rows
  pub below : (place : ℕ) → IsSome (tree.get nat_cmp rows place) → place < next
  pub named : (id : List ℕ) (place : ℕ) → is_named ids id place ≡ has_name id (tree.get nat_cmp rows place)

-- the row comes to its place
abbrev pub PutsRow : BTreeMap ℕ EventRow → ℕ → EventRow → BTreeMap ℕ EventRow → Type 0
PutsRow old place row new =
    (new.entries ≡ insert_entry nat_cmp old.entries place row) × tree.Updates nat_cmp old new place (Some row) × tree.IsOrdered nat_cmp new

-- the row at a place goes
abbrev pub TakesRow : BTreeMap ℕ EventRow → ℕ → BTreeMap ℕ EventRow → Type 0
TakesRow old place new =
    (new.entries ≡ remove_entry (is_at (nat_cmp place)) old.entries) × tree.Updates nat_cmp old new place None × tree.IsOrdered nat_cmp new

-- the row at a place is this one now
abbrev pub SetsRow : BTreeMap ℕ EventRow → ℕ → EventRow → BTreeMap ℕ EventRow → Type 0
SetsRow old place row new =
    (new.entries ≡ set_value (is_at (nat_cmp place)) old.entries row) × tree.Updates nat_cmp old new place (Some row)
    × tree.IsOrdered nat_cmp new

-- of the row at a place, if there is one, this holds
abbrev pub ForRowAt : BTreeMap ℕ EventRow → ℕ → (EventRow → Type 0) → Type 0
ForRowAt rows place P = (r : EventRow) → tree.get nat_cmp rows place ≡ Some r → P r
