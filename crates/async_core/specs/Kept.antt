-- The events that are held, as their rows in the order of acceptance, and the indexes in which they stand.
use Rattle.std.specs.Prelude.{◌≡◌, ℕ, true, false, List, Option, Some, None, option_map, is_some, All, Contains, ◌<◌, ◌≤◌}
use Rattle.std.specs.Map.{values_of}
use Rattle.std.specs.Ordering.{nat_cmp}
use Rattle.std.specs.BTreeMap as tree
use Rattle.std.specs.BTreeMap.{BTreeMap}
use Rattle.std.specs.BTreeSet as sorted
use Rattle.std.specs.BTreeSet.{BTreeSet, contains}
use Rattle.invoke_records.specs.declared.row.EventRow.{EventRow}
use Rattle.async_core.specs.declared.keys.Facts.{Facts}
use Rattle.async_core.specs.Rules.{too_old_at}
use Rattle.async_core.specs.declared.tally.Tally.{Tally}
use Rattle.async_core.specs.Tallies.{IsTallied}
use Rattle.async_core.specs.Ids.{by_id, is_named, IsHeld}
use Rattle.async_core.specs.declared.keys.Index.{Index}
use Rattle.async_core.specs.Keys.{Key, by_key, index_rank, row_key, AreKeys, Switches, StaysAt, facts_of, idle_key}
use Rattle.async_core.specs.Choice.{ChoosesAmong}
use Rattle.async_core.specs.declared.choice.Order.{Order}

-- the facts of the row at a place, if there is one
abbrev pub facts_in : BTreeMap ℕ EventRow → ℕ → Option Facts
facts_in rows place = option_map facts_of (tree.get nat_cmp rows place)

-- the ids, the keys and the tally are those of the rows
pub record IsIndexed (rows : BTreeMap ℕ EventRow) (ids : BTreeSet (List ℕ × ℕ))
    (keys : BTreeSet Key) (tally : Tally) (next : ℕ) : Type 0 where
  pub held : IsHeld rows ids next
  pub keyed : AreKeys (facts_in rows) keys
  pub tallied : IsTallied (values_of rows.entries) tally

-- an id comes to a place, with its keys
abbrev pub Enters : ℕ → List ℕ → Facts → BTreeSet (List ℕ × ℕ) → BTreeSet (List ℕ × ℕ) → BTreeSet Key → BTreeSet Key → Type 0
Enters place id facts ids named keys keyed =
    sorted.Updates by_id ids named (id, place) true × Switches place None (Some facts) keys keyed

-- where there was nothing at the place, all is as it was
abbrev pub StaysOut : ℕ → BTreeSet (List ℕ × ℕ) → BTreeSet (List ℕ × ℕ) → BTreeSet Key → BTreeSet Key → Type 0
StaysOut place ids named keys keyed =
    (((id : List ℕ) → is_named ids id place ≡ false) → (id : List ℕ) (q : ℕ) → is_named named id q ≡ is_named ids id q)
    × StaysAt place None keys keyed

-- no event that waits for an attempt is too old
abbrev pub NoneExpired : ℕ → List EventRow → Type 0
NoneExpired now rows = All (λ (r : EventRow). is_some (idle_key (facts_of r) r.standing) ≡ true → now < too_old_at r) rows

-- the rows with a key in this index, up to this number, are among these rows
abbrev pub HasKeyed : BTreeMap ℕ EventRow → BTreeSet Key → Index → ℕ → List EventRow → Type 0
HasKeyed rows keys i last more =
    (a b q : ℕ) (r : EventRow) → contains by_key keys (index_rank i, a, b, q) ≡ true → a ≤ last
    → tree.get nat_cmp rows q ≡ Some r → Contains more r

abbrev pub ChoosesByKeys : Order → BTreeMap ℕ EventRow → BTreeSet Key → Index → ℕ → Option EventRow → Option EventRow → Type 0
ChoosesByKeys order rows keys i last best chosen = ChoosesAmong order (values_of rows.entries) (HasKeyed rows keys i last) best chosen

-- the rows that stand in this index, up to this number, are among these rows
abbrev pub HasThose : List EventRow → Index → ℕ → List EventRow → Type 0
HasThose rows i last more = All (λ (r : EventRow). is_some (row_key i 0 (Some last) r) ≡ true → Contains more r) rows

abbrev pub ChoosesUpTo : Order → List EventRow → Index → ℕ → Option EventRow → Option EventRow → Type 0
ChoosesUpTo order rows i last best chosen = ChoosesAmong order rows (HasThose rows i last) best chosen
