-- The tally stays that of the rows.
use Rattle.std.proofs.Common.{◌≡◌, ℕ, ◌+◌, ◌≤◌, ◌<◌, ◌^◌, List, [], ◌∷◌, ◌++◌, length, Bool, cond, Option, Some, sym, subst, arith}
use Rattle.std.specs.Prelude.{option_map, unwrap_or}
use Rattle.std.specs.List.{count_by}
use Rattle.std.specs.Map.{set_value, remove_entry, values_of}
use Rattle.std.specs.BTreeMap as tree
use Rattle.std.specs.BTreeMap.{BTreeMap, is_at}
use Rattle.std.specs.Ordering.{nat_cmp}
use Rattle.std.proofs.lemmas.List.{length-map}
use Rattle.std.proofs.lemmas.List.Sums.{sum_by-append, count_by-le-length}
use Rattle.std.proofs.lemmas.Map.Entries.{sum_by-set_value, sum_by-remove_entry}
use Rattle.invoke_records.specs.declared.row.EventRow.{EventRow}
use Rattle.invoke_records.specs.declared.row.Standing.{Standing}
use Rattle.invoke_records.specs.declared.row.Standing.TheVariants.{Unknown}
use Rattle.async_core.specs.declared.choice.Side.TheVariants as side
use Rattle.async_core.specs.declared.keys.Facts.{Facts}
use Rattle.async_core.specs.declared.tally.Tally.{Tally}
use Rattle.async_core.specs.Standings.{is_running}
use Rattle.async_core.specs.Choice.{ended_on}
use Rattle.async_core.specs.Keys.{facts_of}
use Rattle.async_core.specs.Tallies.{IsTallied, HasOne, IsFew, Retallies}

-- ## One count

module _ (test : Standing → Bool) where
  abbrev one : EventRow → ℕ
  one r = cond (test r.standing) 1 0

  abbrev counted : List EventRow → ℕ
  counted rows = count_by (λ (r : EventRow). test r.standing) rows

  count_more : (rows : List EventRow) (r : EventRow) (count now : ℕ) → count ≡ counted rows → now + 0 ≡ count + one r → now ≡ counted (rows ++ r ∷ [])
  count_more rows r count now was more =
      let joined : counted (rows ++ r ∷ []) ≡ counted rows + (0 + one r) = sum_by-append one rows (r ∷ []) in
      omega (arith, was, more, joined)

  module _ (m : BTreeMap ℕ EventRow) (p : ℕ) (r : EventRow) (there : tree.get nat_cmp m p ≡ Some r) where
    without : counted (values_of (remove_entry (is_at (nat_cmp p)) m.entries)) + one r ≡ counted (values_of m.entries)
    without =
        subst (λ (o : Option EventRow). counted (values_of (remove_entry (is_at (nat_cmp p)) m.entries)) + unwrap_or (option_map one o) 0 ≡ counted (values_of m.entries)) there
        (sum_by-remove_entry one (is_at (nat_cmp p)) m.entries)

    some_one : (count : ℕ) → count ≡ counted (values_of m.entries) → one r ≤ count
    some_one count is = omega (arith, is, without)

    count_fewer : (count now : ℕ) → count ≡ counted (values_of m.entries) → now + one r ≡ count + 0 → now ≡ counted (values_of (remove_entry (is_at (nat_cmp p)) m.entries))
    count_fewer count now was fewer = omega (arith, was, fewer, without)

    count_changed : (w : EventRow) (count now : ℕ) → count ≡ counted (values_of m.entries) → now + one r ≡ count + one w → now ≡ counted (values_of (set_value (is_at (nat_cmp p)) m.entries w))
    count_changed w count now was changed =
        let moved = sum_by-set_value one (is_at (nat_cmp p)) m.entries r w there in
        omega (arith, was, changed, moved)

  few : (m : BTreeMap ℕ EventRow) (count : ℕ) → count ≡ counted (values_of m.entries) → count ≤ length m.entries
  few m count is = omega (arith, is, count_by-le-length (λ (x : EventRow). test x.standing) (values_of m.entries), length-map m.entries (λ (e : ℕ × EventRow). e.1))

-- ## The tally

pub tally_more : (rows : List EventRow) (r : EventRow) (tally now : Tally) → IsTallied rows tally → Retallies tally Unknown r.standing now → IsTallied (rows ++ r ∷ []) now
tally_more rows r tally now was more = record {
  running = count_more is_running rows r tally.running now.running was.running more.running;
  successes = count_more (ended_on side.Success) rows r tally.successes now.successes was.successes more.successes;
  failures = count_more (ended_on side.Failure) rows r tally.failures now.failures was.failures more.failures;
}

pub none_there : (tally : Tally) → HasOne tally Unknown
none_there tally = record { running = omega arith; successes = omega arith; failures = omega arith }

module _ (m : BTreeMap ℕ EventRow) (tally : Tally) (was : IsTallied (values_of m.entries) tally) where
  pub tally_few : length m.entries < 2 ^ 63 → IsFew tally
  tally_few fits = record {
    running = omega (arith, fits, few is_running m tally.running was.running);
    successes = omega (arith, fits, few (ended_on side.Success) m tally.successes was.successes);
    failures = omega (arith, fits, few (ended_on side.Failure) m tally.failures was.failures);
  }

  module _ (p : ℕ) (r : EventRow) (there : tree.get nat_cmp m p ≡ Some r) (old : Facts) (of_old : old ≡ facts_of r) where
    pub one_there : HasOne tally old.standing
    one_there = subst (λ (f : Facts). HasOne tally f.standing) (sym of_old) (record {
      running = some_one is_running m p r there tally.running was.running;
      successes = some_one (ended_on side.Success) m p r there tally.successes was.successes;
      failures = some_one (ended_on side.Failure) m p r there tally.failures was.failures;
    })

    pub tally_fewer : (now : Tally) → Retallies tally old.standing Unknown now → IsTallied (values_of (remove_entry (is_at (nat_cmp p)) m.entries)) now
    tally_fewer now changed =
        let fewer : Retallies tally r.standing Unknown now = subst (λ (f : Facts). Retallies tally f.standing Unknown now) of_old changed in
        record {
          running = count_fewer is_running m p r there tally.running now.running was.running fewer.running;
          successes = count_fewer (ended_on side.Success) m p r there tally.successes now.successes was.successes fewer.successes;
          failures = count_fewer (ended_on side.Failure) m p r there tally.failures now.failures was.failures fewer.failures;
        }

    pub tally_changed : (w : EventRow) (new : Facts) (now : Tally) → new ≡ facts_of w → Retallies tally old.standing new.standing now → IsTallied (values_of (set_value (is_at (nat_cmp p)) m.entries w)) now
    tally_changed w new now of_new changed =
        let half : Retallies tally r.standing new.standing now = subst (λ (f : Facts). Retallies tally f.standing new.standing now) of_old changed in
        let moved : Retallies tally r.standing w.standing now = subst (λ (f : Facts). Retallies tally r.standing f.standing now) of_new half in
        record {
          running = count_changed is_running m p r there w tally.running now.running was.running moved.running;
          successes = count_changed (ended_on side.Success) m p r there w tally.successes now.successes was.successes moved.successes;
          failures = count_changed (ended_on side.Failure) m p r there w tally.failures now.failures was.failures moved.failures;
        }
