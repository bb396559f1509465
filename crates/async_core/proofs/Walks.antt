-- A walk over the keys of an index, up to a number, which chooses among their rows.
use Rattle.std.proofs.Common.{◌≡◌, ℕ, ◌+◌, ◌≤◌, ◌<◌, zero, suc, List, [], ◌∷◌, ◌++◌, Bool, true, false, ◌&&◌, ◌||◌, ◌==◌, Option, Some, None, refl, sym, ap, ◌∙◌, subst, arith, ◌⊎◌, inl, inr, All, Contains, filter, cond, IfSome, is_some}
use Rattle.std.specs.List.{list_any}
use Rattle.std.specs.BTreeMap as tree
use Rattle.std.specs.BTreeMap.{BTreeMap, is_at}
use Rattle.std.specs.BTreeMap.Range.{range_contains}
use Rattle.std.specs.BTreeSet.{BTreeSet, contains, keys_between}
use Rattle.std.specs.Map.{values_of}
use Rattle.std.specs.Cmp.{unsigned_tied}
use Rattle.std.specs.Ordering.{nat_cmp, ordering_then, is_eq, is_gt, is_le}
use Rattle.std.specs.declared.cmp.Ordering.{Ordering}
use Rattle.std.specs.declared.cmp.Ordering.TheVariants.{Less, Equal, Greater}
use Rattle.std.specs.declared.ops.Bound.TheVariants.{Included, Excluded}
use Rattle.std.proofs.lemmas.Bool.{true≢false, eqb-true, leb-true, and_parts, and_from}
use Rattle.std.proofs.lemmas.Bool.Decides.{nat_tests}
use Rattle.std.proofs.lemmas.List.Elements.{All-contains_itself, Contains-append_left, Contains-push}
use Rattle.std.proofs.lemmas.Map.Views.{IfSome-lookup_from_All}
use Rattle.invoke_records.specs.declared.row.EventRow.{EventRow}
use Rattle.async_core.specs.declared.keys.Index.{Index}
use Rattle.async_core.specs.Keys.{Key, index_rank, by_key, IsAtMost, facts_of, key_in, within, key_within, row_key}
use Rattle.async_core.specs.declared.tally.Tally.{Tally}
use Rattle.async_core.specs.Kept.{IsIndexed, HasKeyed}
use Rattle.async_core.proofs.KeptRows.{rows_all, stands}
use Rattle.async_core.proofs.KeySteps.{tie_both}
use Rattle.async_core.proofs.FirstKeys.{from_low, equal_from}

-- the rows with a key in this index, up to this number, are among these rows, save those whose keys are still to come
abbrev pub IsToCome : BTreeMap ℕ EventRow → BTreeSet Key → Index → ℕ → List Key → List EventRow → Type 0
IsToCome rows keys i last coming more =
    (a b q : ℕ) (r : EventRow) → contains by_key keys (index_rank i, a, b, q) ≡ true → a ≤ last → tree.get nat_cmp rows q ≡ Some r
    → Contains more r ⊎ Contains coming (index_rank i, a, b, q)

-- ## The keys of a range

same_key : (k x : Key) → is_eq (by_key k x) ≡ true → k ≡ x
same_key k x h =
    let split : ((k.0 == x.0) && (k.1 == x.1) && (k.2 == x.2) && (k.3 == x.3)) ≡ true =
    sym (tie_both (ordering_then (ordering_then (nat_cmp k.0 x.0) (nat_cmp k.1 x.1)) (nat_cmp k.2 x.2)) (nat_cmp k.3 x.3)
    ∙ rw (tie_both (ordering_then (nat_cmp k.0 x.0) (nat_cmp k.1 x.1)) (nat_cmp k.2 x.2), tie_both (nat_cmp k.0 x.0) (nat_cmp k.1 x.1), unsigned_tied k.0 x.0, unsigned_tied k.1 x.1, unsigned_tied k.2 x.2, unsigned_tied k.3 x.3) refl) ∙ h in
    let last = and_parts _ (k.3 == x.3) split in
    let third = and_parts _ (k.2 == x.2) last.0 in
    let both = and_parts (k.0 == x.0) (k.1 == x.1) third.0 in
    rw (eqb-true k.0 x.0 both.0, eqb-true k.1 x.1 both.1, eqb-true k.2 x.2 third.1, eqb-true k.3 x.3 last.1) refl

later : (x k : Key) (ks : List Key) → Contains ks k → Contains (x ∷ ks) k
later x k ks there = (suc there.0, omega (arith, there.1), there.2)

-- a key of the set that passes is among those that pass
in_passing : (p : Key → Bool) (k : Key) → p k ≡ true → (ks : List Key) → list_any (is_at (by_key k)) ks ≡ true → Contains (filter p ks) k
in_passing p k passes [] h = absurd (true≢false (sym h))
in_passing p k passes (x ∷ ks) h = by_test (is_at (by_key k) x) refl h (in_passing p k passes ks)
  where
    kept : (b : Bool) → Contains (filter p ks) k → Contains (cond b (x ∷ filter p ks) (filter p ks)) k
    kept true there = later x k (filter p ks) there
    kept false there = there

    by_test : (b : Bool) → is_at (by_key k) x ≡ b → (is_at (by_key k) x || list_any (is_at (by_key k)) ks) ≡ true → (list_any (is_at (by_key k)) ks ≡ true → Contains (filter p ks) k) → Contains (filter p (x ∷ ks)) k
    by_test true here any rest =
        let same : k ≡ x = same_key k x here in
        rw (subst (λ y. p y ≡ true) same passes) (zero, omega arith, sym same)
    by_test false apart any rest = kept (p x) (rest (subst (λ b. (b || list_any (is_at (by_key k)) ks) ≡ true) apart any))

not_over : (o : Ordering) → is_gt o ≡ false → is_le o ≡ true
not_over Less h = refl
not_over Equal h = refl
not_over Greater h = absurd (true≢false h)

over : (m n : ℕ) → n < m → nat_cmp m n ≡ Greater
over m n lt = grind (arith, nat_tests)

at_least_none : (a b : ℕ) → IsAtMost (0, 0) (a, b)
at_least_none zero b = inr (refl, omega arith)
at_least_none (suc a) b = inl (omega arith)

in_range : (rank l a b q : ℕ) → a ≤ l → range_contains by_key (Included (rank, 0, 0, 0)) (Excluded (rank, l + 1, 0, 0)) (rank, a, b, q) ≡ true
in_range rank l a b q le =
    and_from _ _ (not_over _ (from_low rank (0, 0) a b q (at_least_none a b)))
    (rw (equal_from rank rank refl, over (l + 1) a (omega arith)) refl)

pub all_to_come : (rows : BTreeMap ℕ EventRow) (keys : BTreeSet Key) (i : Index) (last rank l : ℕ) (coming : List Key) (more : List EventRow) → rank ≡ index_rank i → l ≡ last
    → coming ≡ keys_between by_key (Included (rank, 0, 0, 0)) (Excluded (rank, l + 1, 0, 0)) keys → IsToCome rows keys i last coming more
all_to_come rows keys i last rank l coming more of_index of_last is = λ a b q r has le there.
    inr (subst (λ ks. Contains ks (index_rank i, a, b, q)) (sym is)
    (subst (λ n. Contains (keys_between by_key (Included (n, 0, 0, 0)) (Excluded (n, l + 1, 0, 0)) keys) (index_rank i, a, b, q)) (sym of_index)
    (in_passing (range_contains by_key (Included (index_rank i, 0, 0, 0)) (Excluded (index_rank i, l + 1, 0, 0))) (index_rank i, a, b, q)
    (in_range (index_rank i) l a b q (omega (arith, of_last))) keys.keys has)))

-- ## A key that comes

first_or_later : (x k : Key) (ks : List Key) → Contains (x ∷ ks) k → (x ≡ k) ⊎ Contains ks k
first_or_later x k ks (zero, lt, is) = inl is
first_or_later x k ks (suc n, lt, is) = inr (n, omega arith, is)

some_same : {A : Type 0} {x y : A} → Some x ≡ Some y → x ≡ y
some_same h = cc

module _ (rows : BTreeMap ℕ EventRow) (keys : BTreeSet Key) (i : Index) (last : ℕ) (k : Key) (coming : List Key) (more : List EventRow) (before : IsToCome rows keys i last (k ∷ coming) more) where
  pub comes : (row : EventRow) → tree.get nat_cmp rows k.3 ≡ Some row → IsToCome rows keys i last coming (more ++ row ∷ [])
  comes row at = λ a b q r has le there.
      elim (before a b q r has le there) [
        | inl among ↦ inl (Contains-append_left more (row ∷ []) r among)
        | inr still ↦
            elim (first_or_later k (index_rank i, a, b, q) coming still) [
              | inl here ↦
                  let place : k.3 ≡ q = ap (λ (t : Key). t.3) here in
                  let same : row ≡ r = some_same (sym at ∙ ap (tree.get nat_cmp rows) place ∙ there) in
                  inl (subst (Contains (more ++ row ∷ [])) same (Contains-push more row))
              | inr rest ↦ inr rest
            ]
      ]

  pub passes : tree.get nat_cmp rows k.3 ≡ None → IsToCome rows keys i last coming more
  passes none = λ a b q r has le there.
      elim (before a b q r has le there) [
        | inl among ↦ inl among
        | inr still ↦
            elim (first_or_later k (index_rank i, a, b, q) coming still) [
              | inl here ↦
                  let place : k.3 ≡ q = ap (λ (t : Key). t.3) here in
                  let apart : None ≡ Some r = sym none ∙ ap (tree.get nat_cmp rows) place ∙ there in
                  absurd (cc)
              | inr rest ↦ inr rest
            ]
      ]

no_more : (k : Key) → Contains [] k → ⊥
no_more k there = omega (arith, there.1)

-- a row that is found is among the rows
pub is_row : (rows : BTreeMap ℕ EventRow) (q : ℕ) (row : EventRow) → tree.get nat_cmp rows q ≡ Some row → Contains (values_of rows.entries) row
is_row rows q row there =
    subst (λ (o : Option EventRow). IfSome o (Contains (values_of rows.entries))) there
    (IfSome-lookup_from_All (Contains (values_of rows.entries)) (is_at (nat_cmp q)) rows.entries (All-contains_itself (values_of rows.entries)))

pub none_to_come : (rows : BTreeMap ℕ EventRow) (keys : BTreeSet Key) (i : Index) (last : ℕ) (coming : List Key) (more : List EventRow) → coming ≡ [] → IsToCome rows keys i last coming more → HasKeyed rows keys i last more
none_to_come rows keys i last coming more ended are = λ a b q r has le there.
    elim (are a b q r has le there) [
      | inl among ↦ among
      | inr still ↦ absurd (no_more (index_rank i, a, b, q) (subst (λ ks. Contains ks (index_rank i, a, b, q)) ended still))
    ]

-- ## The rows that stand in an index

module _ (m : BTreeMap ℕ EventRow) (s : BTreeSet (List ℕ × ℕ)) (keys : BTreeSet Key) (tally : Tally) (n : ℕ) (indexed : IsIndexed m s keys tally n) (i : Index) (last : ℕ) (more : List EventRow) (has : HasKeyed m keys i last more) where
  standing_there : (q : ℕ) (r : EventRow) → tree.get nat_cmp m q ≡ Some r → (o : Option (ℕ × ℕ)) → key_in (facts_of r) i ≡ o → is_some (key_within 0 (Some last) o) ≡ true → Contains more r
  standing_there q r there None key some = absurd (true≢false (sym some))
  standing_there q r there (Some at) key some = by_test (within 0 (Some last) at) refl
    where
      by_test : (b : Bool) → within 0 (Some last) at ≡ b → Contains more r
      by_test true inside = has at.0 at.1 q r (stands m s keys tally n indexed i q r at there key) (leb-true at.0 last (and_parts _ _ inside).1) there
      by_test false outside = absurd (true≢false (sym some ∙ ap (λ b. is_some (cond b (Some at) None)) outside))

  pub has_those : All (λ (r : EventRow). is_some (row_key i 0 (Some last) r) ≡ true → Contains more r) (values_of m.entries)
  has_those = rows_all m s keys tally n indexed (λ r. is_some (row_key i 0 (Some last) r) ≡ true → Contains more r) (λ q r there some. standing_there q r there (key_in (facts_of r) i) refl some)
