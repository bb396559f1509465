-- Rows of which some have a longer age, by a list of choices.
use Rattle.std.proofs.Common.{◌≡◌, ℕ, ◌+◌, ◌≤◌, List, [], ◌∷◌, ◌++◌, length, map, Bool, true, false, not, cond, refl, sym, ap, ◌∙◌, arith, Option, Some, nat_lt}
use Rattle.std.specs.Prelude.{find, if◌then◌else◌}
use Rattle.std.specs.List.{count_by}
use Rattle.std.proofs.lemmas.Bool.{true≢false, false≢true, ltb-true}
use Rattle.invoke_records.specs.declared.row.EventRow.{EventRow}
use Rattle.async_core.specs.Standings.{is_ended, is_running}
use Rattle.async_core.specs.Rules.{has_id, standing_or_unknown, too_old_or_zero, running_at, is_busy_at, change_row, remove_row}
use Rattle.async_core.specs.laws.Lives.{count_by-cons}
use Rattle.aged_copy.specs.Aging.{age_by, row_by, aged_row}

module _ (age : ℕ) where
  -- the rows by these choices; where one is missing, not longer
  abbrev pub rows_by : List Bool → List EventRow → List EventRow
  rows_by bs [] = []
  rows_by [] (r ∷ rows) = row_by false age r ∷ rows_by [] rows
  rows_by (b ∷ bs) (r ∷ rows) = row_by b age r ∷ rows_by bs rows

  -- no event that has ended gets a longer age
  abbrev pub MayBe : List Bool → List EventRow → Type 0
  MayBe bs [] = Unit {0}
  MayBe [] (r ∷ rows) = Unit {0}
  MayBe (b ∷ bs) (r ∷ rows) = (b ≡ true → is_ended r.standing ≡ false) × MayBe bs rows

  -- where one is missing, all are
  pub none_chosen : (rows : List EventRow) → MayBe [] rows
  none_chosen [] = tt
  none_chosen (r ∷ rows) = tt

  -- ## What is read of them

  pub length-rows_by : (bs : List Bool) (rows : List EventRow) → length (rows_by bs rows) ≡ length rows
  length-rows_by bs [] = refl
  length-rows_by [] (r ∷ rows) = rw (length-rows_by [] rows) refl
  length-rows_by (b ∷ bs) (r ∷ rows) = rw (length-rows_by bs rows) refl

  abbrev runs : EventRow → Bool
  runs r = is_running r.standing

  counted : (b : Bool) (r : EventRow) (rows back : List EventRow) → count_by runs back ≡ count_by runs rows → count_by runs (row_by b age r ∷ back) ≡ count_by runs (r ∷ rows)
  counted b r rows back same = count_by-cons runs (row_by b age r) back ∙ ap (λ n. cond (runs r) 1 0 + n) same ∙ sym (count_by-cons runs r rows)

  running : (bs : List Bool) (rows : List EventRow) → count_by runs (rows_by bs rows) ≡ count_by runs rows
  running bs [] = refl
  running [] (r ∷ rows) = counted false r rows (rows_by [] rows) (running [] rows)
  running (b ∷ bs) (r ∷ rows) = counted b r rows (rows_by bs rows) (running bs rows)

  pub running-rows_by : (bs : List Bool) (rows : List EventRow) → running_at (rows_by bs rows) ≡ running_at rows
  running-rows_by bs rows = running bs rows

  pub busy-rows_by : (environment : ℕ) (bs : List Bool) (rows : List EventRow) → is_busy_at environment (rows_by bs rows) ≡ is_busy_at environment rows
  busy-rows_by environment bs [] = refl
  busy-rows_by environment [] (r ∷ rows) = rw (busy-rows_by environment [] rows) refl
  busy-rows_by environment (b ∷ bs) (r ∷ rows) = rw (busy-rows_by environment bs rows) refl

  -- an age that may be longer is not shorter
  pub least-age_by : (b : Bool) (old : ℕ) → old ≤ age_by b age old
  least-age_by false old = omega arith
  least-age_by true old = least_of (nat_lt old age) refl where
    least_of : (less : Bool) → nat_lt old age ≡ less → old ≤ (if less then age else old)
    least_of true is = let lt = ltb-true old age is in omega (arith, lt)
    least_of false is = omega arith

  module _ (id : List ℕ) where
    standing_here : (found b : Bool) (r : EventRow) (front back : Option EventRow) → standing_or_unknown front ≡ standing_or_unknown back
        → standing_or_unknown (cond found (Some (row_by b age r)) front) ≡ standing_or_unknown (cond found (Some r) back)
    standing_here true b r front back same = refl
    standing_here false b r front back same = same

    pub standing-rows_by : (bs : List Bool) (rows : List EventRow) → standing_or_unknown (find (has_id id) (rows_by bs rows)) ≡ standing_or_unknown (find (has_id id) rows)
    standing-rows_by bs [] = refl
    standing-rows_by [] (r ∷ rows) = standing_here (has_id id r) false r (find (has_id id) (rows_by [] rows)) (find (has_id id) rows) (standing-rows_by [] rows)
    standing-rows_by (b ∷ bs) (r ∷ rows) = standing_here (has_id id r) b r (find (has_id id) (rows_by bs rows)) (find (has_id id) rows) (standing-rows_by bs rows)

    too_old_here : (found b : Bool) (r : EventRow) (front back : Option EventRow) → too_old_or_zero back ≤ too_old_or_zero front
        → too_old_or_zero (cond found (Some r) back) ≤ too_old_or_zero (cond found (Some (row_by b age r)) front)
    too_old_here true b r front back le = omega (arith, least-age_by b r.policy.age)
    too_old_here false b r front back le = le

    pub too_old-rows_by : (bs : List Bool) (rows : List EventRow) → too_old_or_zero (find (has_id id) rows) ≤ too_old_or_zero (find (has_id id) (rows_by bs rows))
    too_old-rows_by bs [] = omega arith
    too_old-rows_by [] (r ∷ rows) = too_old_here (has_id id r) false r (find (has_id id) (rows_by [] rows)) (find (has_id id) rows) (too_old-rows_by [] rows)
    too_old-rows_by (b ∷ bs) (r ∷ rows) = too_old_here (has_id id r) b r (find (has_id id) (rows_by bs rows)) (find (has_id id) rows) (too_old-rows_by bs rows)

    -- ## A row that is changed

    module _ (change : EventRow → EventRow) where
      -- where it ends its event, it is no older than it was
      same_here : (found b : Bool) (bs : List Bool) (r : EventRow) (rows : List EventRow) → ((r : EventRow) → is_ended (change r).standing ≡ true)
          → MayBe (b ∷ bs) (if found then change r ∷ rows else r ∷ change_row id change rows)
          → (MayBe bs (change_row id change rows) → too_old_or_zero (find (has_id id) (rows_by bs rows)) ≡ too_old_or_zero (find (has_id id) rows))
          → too_old_or_zero (cond found (Some (row_by b age r)) (find (has_id id) (rows_by bs rows))) ≡ too_old_or_zero (cond found (Some r) (find (has_id id) rows))
      same_here true true bs r rows ends may later = absurd (true≢false (sym (ends r) ∙ may.0 refl))
      same_here true false bs r rows ends may later = refl
      same_here false b bs r rows ends may later = later may.1

      missing_here : (found : Bool) (r : EventRow) (front back : Option EventRow) → too_old_or_zero front ≡ too_old_or_zero back
          → too_old_or_zero (cond found (Some (row_by false age r)) front) ≡ too_old_or_zero (cond found (Some r) back)
      missing_here true r front back same = refl
      missing_here false r front back same = same

      missing-same : (rows : List EventRow) → too_old_or_zero (find (has_id id) (rows_by [] rows)) ≡ too_old_or_zero (find (has_id id) rows)
      missing-same [] = refl
      missing-same (r ∷ rows) = missing_here (has_id id r) r (find (has_id id) (rows_by [] rows)) (find (has_id id) rows) (missing-same rows)

      pub too_old-same : ((r : EventRow) → is_ended (change r).standing ≡ true) → (bs : List Bool) (rows : List EventRow) → MayBe bs (change_row id change rows)
          → too_old_or_zero (find (has_id id) (rows_by bs rows)) ≡ too_old_or_zero (find (has_id id) rows)
      too_old-same ends bs [] may = refl
      too_old-same ends [] (r ∷ rows) may = missing-same (r ∷ rows)
      too_old-same ends (b ∷ bs) (r ∷ rows) may = same_here (has_id id r) b bs r rows ends may (too_old-same ends bs rows)

      may_here : (found b : Bool) (bs : List Bool) (r : EventRow) (rows : List EventRow) → is_ended (standing_or_unknown (cond found (Some r) (find (has_id id) rows))) ≡ false
          → MayBe (b ∷ bs) (if found then change r ∷ rows else r ∷ change_row id change rows)
          → (is_ended (standing_or_unknown (find (has_id id) rows)) ≡ false → MayBe bs (change_row id change rows) → MayBe bs rows)
          → MayBe (b ∷ bs) (r ∷ rows)
      may_here true b bs r rows goes_on may later = ((λ _. goes_on), may.1)
      may_here false b bs r rows goes_on may later = (may.0, later goes_on may.1)

      -- the choices were so before, where it had not ended
      pub MayBe-changed : (bs : List Bool) (rows : List EventRow) → is_ended (standing_or_unknown (find (has_id id) rows)) ≡ false → MayBe bs (change_row id change rows) → MayBe bs rows
      MayBe-changed bs [] goes_on may = tt
      MayBe-changed [] (r ∷ rows) goes_on may = tt
      MayBe-changed (b ∷ bs) (r ∷ rows) goes_on may = may_here (has_id id r) b bs r rows goes_on may (MayBe-changed bs rows)

      module _ (other : EventRow → EventRow) (alike : (b : Bool) (r : EventRow) → other (row_by b age r) ≡ row_by b age (change r)) where
        changed_here : (found b : Bool) (bs : List Bool) (r : EventRow) (rows : List EventRow) → change_row id other (rows_by bs rows) ≡ rows_by bs (change_row id change rows)
            → (if found then other (row_by b age r) ∷ rows_by bs rows else row_by b age r ∷ change_row id other (rows_by bs rows))
            ≡ rows_by (b ∷ bs) (if found then change r ∷ rows else r ∷ change_row id change rows)
        changed_here true b bs r rows same = ap (λ x. x ∷ rows_by bs rows) (alike b r)
        changed_here false b bs r rows same = ap (λ l. row_by b age r ∷ l) same

        missed_here : (found : Bool) (r : EventRow) (rows : List EventRow) → change_row id other (rows_by [] rows) ≡ rows_by [] (change_row id change rows)
            → (if found then other (row_by false age r) ∷ rows_by [] rows else row_by false age r ∷ change_row id other (rows_by [] rows))
            ≡ rows_by [] (if found then change r ∷ rows else r ∷ change_row id change rows)
        missed_here true r rows same = ap (λ x. x ∷ rows_by [] rows) (alike false r)
        missed_here false r rows same = ap (λ l. row_by false age r ∷ l) same

        pub changed-rows_by : (bs : List Bool) (rows : List EventRow) → change_row id other (rows_by bs rows) ≡ rows_by bs (change_row id change rows)
        changed-rows_by bs [] = refl
        changed-rows_by [] (r ∷ rows) = missed_here (has_id id r) r rows (changed-rows_by [] rows)
        changed-rows_by (b ∷ bs) (r ∷ rows) = changed_here (has_id id r) b bs r rows (changed-rows_by bs rows)

    -- ## A row that is removed

    -- the choices before: the row that is removed has no longer age
    abbrev Without : List Bool → List EventRow → List EventRow → Type 0
    Without bs rows left = (cs : List Bool) × MayBe cs rows × (remove_row id (rows_by cs rows) ≡ rows_by bs left)

    abbrev head_of : List Bool → Bool
    head_of [] = false
    head_of (b ∷ bs) = b

    abbrev tail_of : List Bool → List Bool
    tail_of [] = []
    tail_of (b ∷ bs) = bs

    rows_by-cons : (bs : List Bool) (r : EventRow) (rows : List EventRow) → rows_by bs (r ∷ rows) ≡ row_by (head_of bs) age r ∷ rows_by (tail_of bs) rows
    rows_by-cons [] r rows = refl
    rows_by-cons (b ∷ bs) r rows = refl

    MayBe-tail : (bs : List Bool) (r : EventRow) (rows : List EventRow) → MayBe bs (r ∷ rows) → (head_of bs ≡ true → is_ended r.standing ≡ false) × MayBe (tail_of bs) rows
    MayBe-tail [] r rows may = ((λ wrong. absurd (false≢true wrong)), none_chosen rows)
    MayBe-tail (b ∷ bs) r rows may = may

    removed_here : (found : Bool) (bs : List Bool) (r : EventRow) (rows : List EventRow) → has_id id r ≡ found
        → ((bs : List Bool) → MayBe bs (remove_row id rows) → Without bs rows (remove_row id rows))
        → MayBe bs (if found then rows else r ∷ remove_row id rows) → Without bs (r ∷ rows) (if found then rows else r ∷ remove_row id rows)
    removed_here true bs r rows is later may = (false ∷ bs, ((λ wrong. absurd (false≢true wrong)), may), rw is refl)
    removed_here false bs r rows is later may =
        let tail = MayBe-tail bs r (remove_row id rows) may in
        let rest = later (tail_of bs) tail.1 in
        (head_of bs ∷ rest.0, (tail.0, rest.1), rw is (ap (λ l. row_by (head_of bs) age r ∷ l) rest.2 ∙ sym (rows_by-cons bs r (remove_row id rows))))

    pub removed-rows_by : (rows : List EventRow) (bs : List Bool) → MayBe bs (remove_row id rows) → Without bs rows (remove_row id rows)
    removed-rows_by [] bs may = ([], tt, refl)
    removed-rows_by (r ∷ rows) bs may = removed_here (has_id id r) bs r rows refl (removed-rows_by rows) may

  -- ## A row that is new

  abbrev pub last_choice : List Bool → List EventRow → Bool
  last_choice [] rows = false
  last_choice (b ∷ bs) [] = b
  last_choice (b ∷ bs) (r ∷ rows) = last_choice bs rows

  pub more-rows_by : (bs : List Bool) (rows : List EventRow) (r : EventRow) → rows_by bs rows ++ row_by (last_choice bs rows) age r ∷ [] ≡ rows_by bs (rows ++ r ∷ [])
  more-rows_by [] [] r = refl
  more-rows_by (b ∷ bs) [] r = refl
  more-rows_by [] (x ∷ rows) r = ap (λ l. row_by false age x ∷ l) (more-rows_by [] rows r)
  more-rows_by (b ∷ bs) (x ∷ rows) r = ap (λ l. row_by b age x ∷ l) (more-rows_by bs rows r)

  pub MayBe-front : (bs : List Bool) (rows : List EventRow) (r : EventRow) → MayBe bs (rows ++ r ∷ []) → MayBe bs rows
  MayBe-front bs [] r may = tt
  MayBe-front [] (x ∷ rows) r may = tt
  MayBe-front (b ∷ bs) (x ∷ rows) r may = (may.0, MayBe-front bs rows r may.1)

  -- ## All that have not ended

  abbrev pub choices : List EventRow → List Bool
  choices rows = map (λ (r : EventRow). not (is_ended r.standing)) rows

  not-ended : (b : Bool) → not b ≡ true → b ≡ false
  not-ended true is = absurd (false≢true is)
  not-ended false is = refl

  pub MayBe-choices : (rows : List EventRow) → MayBe (choices rows) rows
  MayBe-choices [] = tt
  MayBe-choices (r ∷ rows) = (not-ended (is_ended r.standing), MayBe-choices rows)

  pub chosen-rows_by : (rows : List EventRow) → rows_by (choices rows) rows ≡ map (aged_row age) rows
  chosen-rows_by [] = refl
  chosen-rows_by (r ∷ rows) = ap (λ l. aged_row age r ∷ l) (chosen-rows_by rows)
