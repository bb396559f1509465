-- A page without a bound has all places, and where nothing more comes all their lines were told.
use Rattle.std.proofs.Common.{◌≡◌, ℕ, ◌-◌, ◌<◌, ◌≤◌, Bool, List, length, get_or, take, map, Option, None, Some, option_map, All, sym, ap, ◌∙◌, inl, inr, arith}
use Rattle.std.specs.Prelude.{nat_lt, slice_get, if◌then◌else◌}
use Rattle.std.specs.List.{enumerate_from, concat}
use Rattle.std.specs.Option.{option_and_then}
use Rattle.std.proofs.lemmas.Bool.{cases_lt, lt-ltb, le-ltb}
use Rattle.std.proofs.lemmas.List.{take_all, length-take-le}
use Rattle.std.proofs.lemmas.List.Elements.{All-filter, All-map, All-take}
use Rattle.std.proofs.lemmas.List.FromFn.{length-enumerate_from, get_or-enumerate_from}
use Rattle.std.proofs.lemmas.List.Sorted.{All-permutation}
use Rattle.std.proofs.lemmas.Option.{slice_get-get_or, slice_get_cases}
use Rattle.retry_rules.specs.declared.settings.Settings.{Settings}
use Rattle.invoke_records.specs.declared.row.EventRow.{EventRow}
use Rattle.operator_view.specs.declared.page.Page.{Page}
use Rattle.operator_view.specs.Lines.{line_at, Tells}
use Rattle.operator_view.specs.Page.{places_where, id_at, last_id, is_record, record_places, IsFirstEnded}
use Rattle.audit_report.specs.Records.{AreRecords}

-- these places are those of rows
abbrev AreWithin : List EventRow → List ℕ → Type 0
AreWithin rows places = All (λ (p : ℕ). p < length rows) places

enumerated : (rows : List EventRow) → All (λ (e : ℕ × EventRow). e.0 < length rows) (enumerate_from 0 rows)
enumerated rows k d h =
    let within : k < length rows = omega (arith, h, length-enumerate_from 0 rows) in
    rw (get_or-enumerate_from 0 rows k d within) (omega arith)

places_within : (test : ℕ → EventRow → Bool) (rows : List EventRow) → AreWithin rows (places_where test rows)
places_within test rows =
    All-map (λ (p : ℕ). p < length rows) (λ (e : ℕ × EventRow). e.0) _
    (All-filter (λ (e : ℕ × EventRow). test e.0 e.1) (λ (e : ℕ × EventRow). e.0 < length rows) (enumerate_from 0 rows) (enumerated rows))

-- the last of some places has an id
last_id-some : (rows : List EventRow) (places : List ℕ) (count : ℕ) → 0 < count → count < length places → AreWithin rows places
    → None ≡ last_id rows (take count places) → ⊥
last_id-some rows places count some within all none =
    let first : List ℕ = take count places in
    let long : length first ≡ count = length-take-le count places (omega arith) in
    let place : ℕ = get_or first (length first - 1) 0 in
    let inside : length first - 1 < length first = omega arith in
    let found : slice_get first (length first - 1) ≡ Some place = slice_get-get_or first (length first - 1) 0 inside in
    let held : place < length rows = All-take (λ (p : ℕ). p < length rows) count places all (length first - 1) 0 inside in
    elim ((slice_get_cases rows place).1) [
      | inl h ↦
          let is : last_id rows first ≡ Some (h.0).id = ap (option_and_then (id_at rows)) found ∙ ap (option_map (λ (r : EventRow). r.id)) h.2 in
          absurd (cc (is, none))
      | inr h ↦ absurd (omega (arith, h.0, held))
    ]

-- where none is named, none is left
none_left : (rows : List EventRow) (places : List ℕ) (count : ℕ) (next : Option (List ℕ)) → AreWithin rows places → (count < length places → 0 < count)
    → None ≡ (if nat_lt count (length places) then last_id rows (take count places) else next) → (length places ≤ count) × (None ≡ next)
none_left rows places count next all some none =
    elim (cases_lt count (length places)) [
      | inl lt ↦ absurd (last_id-some rows places count (some lt) lt all (rw (lt-ltb count (length places) lt) at none))
      | inr le ↦ (le, rw (le-ltb count (length places) le) at none)
    ]

pub AreRecords-from_told : (s : Settings) (rows : List EventRow) (page : Page) (limit most : ℕ) (text : List ℕ) (next : Option (List ℕ)) → 0 < limit
    → IsFirstEnded rows (record_places None None rows) limit page → Tells s rows page most text next → next ≡ None → AreRecords s rows text
AreRecords-from_told s rows page limit most text next some first told none =
    let ordered : List ℕ = first.ordered in
    let shown : List ℕ = page.places.items in
    let all : AreWithin rows ordered = All-permutation (λ (p : ℕ). p < length rows) _ ordered first.same (places_within (λ place r. is_record None None r) rows) in
    let all_shown : AreWithin rows shown = rw first.first.shown (All-take (λ (p : ℕ). p < length rows) limit ordered all) in
    let told_all = none_left rows shown told.count page.next all_shown (λ lt. (told.full lt).0) (sym none ∙ told.next_is) in
    let shown_all = none_left rows ordered limit None all (λ lt. some) (told_all.1 ∙ first.first.next) in
    let lines : take told.count shown ≡ ordered = take_all told.count shown told_all.0 ∙ first.first.shown ∙ take_all limit ordered shown_all.0 in
    record {
      ordered = ordered;
      same = first.same;
      ascending = first.ascending;
      lines = told.lines ∙ ap (λ (places : List ℕ). concat (map (line_at s rows) places)) lines;
    }
