-- Lemmas: how many of the slots that are kept are open.
use Rattle.std.proofs.Common.{◌≡◌, ℕ, ◌+◌, ◌<◌, List, [], ◌∷◌, length, Bool, true, false, cond, refl, sym, ap, subst, ◌∙◌, inl, inr, arith, None, ◌==◌}
use Rattle.std.specs.List.{count_by, AllByRecursion}
use Rattle.std.specs.List.Sorted.{IsStrictlySortedBy}
use Rattle.std.specs.Map.{lookup, keys_of, values_of}
use Rattle.std.specs.BTreeMap.{is_at}
use Rattle.std.specs.declared.cmp.Ordering.{Ordering}
use Rattle.std.specs.declared.cmp.Ordering.TheVariants.{Less, Equal, Greater}
use Rattle.std.specs.Ordering.{nat_cmp, is_eq}
use Rattle.std.specs.Cmp.{nat_cmp_is}
use Rattle.std.proofs.lemmas.Bool.{false≢true, true≢false, cases_Bool, eqb-true, eq-eqb, ne_eqb}
use Rattle.std.proofs.lemmas.Map.{NonePasses, lookup-none}
use Rattle.std.proofs.lemmas.Map.Entries.{lookup_head, lookup_tail, length-values_of}
use Rattle.std.proofs.lemmas.Map.Keys.{sorted_head, sorted_tail}
use Rattle.std.proofs.lemmas.Map.Lookups.{exact_unsigned}
use Rattle.async_core.specs.laws.Lives.{count_by-cons}
use Rattle.api_core.specs.Replies.{Words}
use Rattle.hall_core.specs.declared.open_slot.OpenSlot.{OpenSlot}
use Rattle.hall_plans.specs.Past.{SlotEvent}
use Rattle.hall_plans.specs.Slots.{open_among}
use Rattle.hall_core.specs.OpenSlots.{Entries, is_open_entry, is_open_at, has_open, open_count, KeepFor}
use Rattle.hall_plans.specs.laws.Counts.{one_if, times, times_open}
use Rattle.hall_core.proofs.Kept.{open_kept}

-- ## Lists in which each number stands as often

-- without the first such number
abbrev without_first : ℕ → List ℕ → List ℕ
without_first x [] = []
without_first x (y ∷ ys) = cond (x == y) ys (y ∷ without_first x ys)

times_cons : (n x : ℕ) (xs : List ℕ) → times n (x ∷ xs) ≡ one_if (n == x) + times n xs
times_cons n x xs = count_by-cons (λ other. n == other) x xs

-- what is left without a number that is there
record IsLeft (x : ℕ) (ys rest : List ℕ) : Type 0 where
  pub times_are : (n : ℕ) → times n ys ≡ one_if (n == x) + times n rest
  pub one_less : length ys ≡ length rest + 1

left_without : (x : ℕ) (ys : List ℕ) → 0 < times x ys → IsLeft x ys (without_first x ys)
left_without x [] there = absurd (omega arith)
left_without x (y ∷ ys) there = elim (cases_Bool (x == y)) [
  | inl here ↦ subst (λ b. IsLeft x (y ∷ ys) (cond b ys (y ∷ without_first x ys))) (sym here) (record {
    times_are = λ n. times_cons n y ys ∙ ap (λ k. one_if (n == k) + times n ys) (sym (eqb-true x y here));
    one_less = omega arith;
  })
  | inr apart ↦
      let is : times x (y ∷ ys) ≡ one_if (x == y) + times x ys = times_cons x y ys in
      let none : one_if (x == y) ≡ 0 = ap one_if apart in
      let later = left_without x ys (omega arith) in
      subst (λ b. IsLeft x (y ∷ ys) (cond b ys (y ∷ without_first x ys))) (sym apart) (record {
        times_are = λ n.
            let a = times_cons n y ys in
            let b = times_cons n y (without_first x ys) in
            let c = later.times_are n in
            omega arith;
        one_less = let less = later.one_less in omega arith;
      })
]

same_length : (xs ys : List ℕ) → ((n : ℕ) → times n xs ≡ times n ys) → length xs ≡ length ys
same_length [] [] same = refl
same_length [] (y ∷ ys) same =
    let one : one_if (y == y) ≡ 1 = ap one_if (eq-eqb y y refl) in
    let is = times_cons y y ys in
    let none : 0 ≡ times y (y ∷ ys) = same y in
    absurd (omega arith)
same_length (x ∷ xs) ys same =
    let one : one_if (x == x) ≡ 1 = ap one_if (eq-eqb x x refl) in
    let is = times_cons x x xs in
    let there = same x in
    let left = left_without x ys (omega arith) in
    let rest = same_length xs (without_first x ys) (λ n.
    let a = times_cons n x xs in
    let b = same n in
    let c = left.times_are n in
    omega arith) in
    let less = left.one_less in
    omega arith

-- ## The numbers of the slots that are open

abbrev open_keys : Bool → Entries → List ℕ
open_keys b [] = []
open_keys b (e ∷ es) = cond (is_open_entry b e.1) (e.0 ∷ open_keys b es) (open_keys b es)

kept_length : (t : Bool) (x : ℕ) (xs : List ℕ) → length (cond t (x ∷ xs) xs) ≡ cond t 1 0 + length xs
kept_length true x xs = omega arith
kept_length false x xs = omega arith

count_keys : (b : Bool) (es : Entries) → open_count b es ≡ length (open_keys b es)
count_keys b [] = refl
count_keys b (e ∷ es) =
    count_by-cons (is_open_entry b) e.1 (values_of es)
    ∙ ap (λ n. cond (is_open_entry b e.1) 1 0 + n) (count_keys b es)
    ∙ sym (kept_length (is_open_entry b e.1) e.0 (open_keys b es))

kept_times : (n : ℕ) (t : Bool) (x : ℕ) (xs : List ℕ) → times n (cond t (x ∷ xs) xs) ≡ cond t (one_if (n == x)) 0 + times n xs
kept_times n true x xs = times_cons n x xs
kept_times n false x xs = omega arith

equal_from : (r : Ordering) → is_eq r ≡ true → r ≡ Equal
equal_from Less is = absurd (false≢true is)
equal_from Equal is = refl
equal_from Greater is = absurd (false≢true is)

none_behind : (k : ℕ) (es : Entries) → AllByRecursion (λ y. nat_cmp k y ≡ Less) (keys_of es) → NonePasses (is_at (nat_cmp k)) es
none_behind k [] above = tt
none_behind k (e ∷ es) above = (ap is_eq above.0, none_behind k es above.1)

-- a slot is among the numbers once where its entry is open
times_keys : (b : Bool) (n : ℕ) (es : Entries) → IsStrictlySortedBy nat_cmp (keys_of es) → times n (open_keys b es) ≡ one_if (has_open b es n)
times_keys b n [] sorted = refl
times_keys b n (e ∷ es) sorted =
    let later = times_keys b n es (sorted_tail nat_cmp e.0 (keys_of es) sorted) in
    let is = kept_times n (is_open_entry b e.1) e.0 (open_keys b es) in
    elim (cases_Bool (is_eq (nat_cmp n e.0))) [
      | inl here ↦
          let same : n ≡ e.0 = exact_unsigned n e.0 (equal_from (nat_cmp n e.0) here) in
          let behind : lookup (is_at (nat_cmp n)) es ≡ None = lookup-none (is_at (nat_cmp n)) es
          (subst (λ k. NonePasses (is_at (nat_cmp k)) es) (sym same) (none_behind e.0 es (sorted_head nat_cmp e.0 (keys_of es) sorted))) in
          let none : times n (open_keys b es) ≡ 0 = later ∙ ap (λ o. one_if (is_open_at b o)) behind in
          let one : one_if (n == e.0) ≡ 1 = ap one_if (eq-eqb n e.0 same) in
          is ∙ ap (λ k. cond (is_open_entry b e.1) (one_if (n == e.0)) 0 + k) none
          ∙ ap (λ k. cond (is_open_entry b e.1) k 0 + 0) one
          ∙ plus_none (is_open_entry b e.1)
          ∙ sym (ap (λ o. one_if (is_open_at b o)) (lookup_head (is_at (nat_cmp n)) e es here))
      | inr other ↦
          let apart : n ≡ e.0 → ⊥ = λ same. true≢false (ap is_eq (nat_cmp_is n e.0 Equal same) ∙ other) in
          let one : one_if (n == e.0) ≡ 0 = ap one_if (ne_eqb n e.0 apart) in
          is ∙ ap (λ k. cond (is_open_entry b e.1) k 0 + times n (open_keys b es)) one
          ∙ none_more (is_open_entry b e.1) (times n (open_keys b es))
          ∙ later ∙ sym (ap (λ o. one_if (is_open_at b o)) (lookup_tail (is_at (nat_cmp n)) e es other))
    ]
  where
    plus_none : (t : Bool) → cond t 1 0 + 0 ≡ one_if t
    plus_none true = refl
    plus_none false = refl

    none_more : (t : Bool) (k : ℕ) → cond t 0 0 + k ≡ k
    none_more true k = omega arith
    none_more false k = omega arith

-- ## How many they are

-- the open ones of the slots that are kept are those that are open by the events
pub open_counted : (b : Bool) (s : Words) (slots : Entries) (events : List SlotEvent) → IsStrictlySortedBy nat_cmp (keys_of slots) → KeepFor s slots events
    → open_count b slots ≡ length (open_among b events)
open_counted b s slots events sorted keeps =
    count_keys b slots
    ∙ same_length (open_keys b slots) (open_among b events)
    (λ n. times_keys b n slots sorted ∙ ap one_if (open_kept b s slots events n keeps) ∙ sym (times_open b n events keeps.apart))

-- in a hall that is not broken all that are kept are open
all_open : (xs : List OpenSlot) → count_by (is_open_entry false) xs ≡ length xs
all_open [] = refl
all_open (x ∷ xs) =
    let is : count_by (is_open_entry false) (x ∷ xs) ≡ 1 + count_by (is_open_entry false) xs = count_by-cons (is_open_entry false) x xs in
    let later = all_open xs in
    omega arith

pub all_are_open : (slots : Entries) → open_count false slots ≡ length slots
all_are_open slots = all_open (values_of slots) ∙ length-values_of slots
