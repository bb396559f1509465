-- The ids stay those of the rows.
use Rattle.std.proofs.Common.{◌≡◌, ℕ, ◌+◌, ◌<◌, List, [], ◌∷◌, ◌++◌, Bool, true, false, ◌&&◌, cond, Option, Some, None, refl, sym, ap, ◌∙◌, subst, arith}
use Rattle.std.specs.Prelude.{find, IsSome, is_some}
use Rattle.std.specs.Map.{lookup, set_value, values_of, keys_of}
use Rattle.std.specs.List.Sorted.{IsStrictlySortedBy}
use Rattle.std.specs.BTreeMap as tree
use Rattle.std.specs.BTreeSet as sorted
use Rattle.std.specs.BTreeMap.{BTreeMap, is_at}
use Rattle.std.specs.BTreeSet.{BTreeSet}
use Rattle.std.specs.Ordering.{nat_cmp, is_eq, ordering_then}
use Rattle.std.specs.Cmp.Lexicographic.{slice_cmp}
use Rattle.std.specs.declared.cmp.Ordering.{Ordering}
use Rattle.std.specs.declared.cmp.Ordering.TheVariants.{Less, Equal, Greater}
use Rattle.std.specs.Str.{bytes_eq}
use Rattle.std.proofs.lemmas.Bool.{true≢false}
use Rattle.std.proofs.lemmas.Bool.Decides.{nat_tests}
use Rattle.std.proofs.lemmas.Map.Text.{is_eq-slice_cmp}
use Rattle.invoke_records.specs.declared.row.EventRow.{EventRow}
use Rattle.async_core.specs.Rules.{has_id, change_row, remove_row}
use Rattle.async_core.specs.Ids.{by_id, is_named, has_name, IsFirstPlace, IsHeld, PutsRow, TakesRow}
use Rattle.async_core.specs.laws.Held.{bytes_eq-sym, bytes_eq-true}
use Rattle.async_core.proofs.HeldRows.{row_in, FirstAt, NoneNamed, none_named, first_at, find_none, find_first, change_none, change_first, remove_none, remove_first, pushed}

tie_both : (a b : Ordering) → is_eq (ordering_then a b) ≡ (is_eq a && is_eq b)
tie_both Less b = refl
tie_both Equal b = refl
tie_both Greater b = refl

pub is_name_at : (id other : List ℕ) (p q : ℕ) → is_eq (by_id (id, p) (other, q)) ≡ (bytes_eq id other && is_eq (nat_cmp p q))
is_name_at id other p q = tie_both (slice_cmp nat_cmp id other) (nat_cmp p q) ∙ ap (λ b. b && is_eq (nat_cmp p q)) (is_eq-slice_cmp id other)

and_right_false : (b : Bool) → (b && false) ≡ false
and_right_false true = refl
and_right_false false = refl

and_right_true : (b : Bool) → (b && true) ≡ b
and_right_true true = refl
and_right_true false = refl

cond_self : (b : Bool) → cond b true false ≡ b
cond_self true = refl
cond_self false = refl

module _ (m : BTreeMap ℕ EventRow) (s : BTreeSet (List ℕ × ℕ)) (n : ℕ) (held : IsHeld m s n) where
  -- nothing is at the next place
  pub none_next : (o : Option EventRow) → tree.get nat_cmp m n ≡ o → tree.get nat_cmp m n ≡ None
  none_next None is = is
  none_next (Some r) is = absurd (omega (arith, held.below n (rw is refl)))

  -- ## A row more

  named_more : (m' : BTreeMap ℕ EventRow) (s' : BTreeSet (List ℕ × ℕ)) (r : EventRow) → tree.Updates nat_cmp m m' n (Some r) → sorted.Updates by_id s s' (r.id, n) true
      → (id : List ℕ) (q : ℕ) (b : Bool) → is_eq (nat_cmp n q) ≡ b → is_named s' id q ≡ has_name id (tree.get nat_cmp m' q)
  named_more m' s' r put added id q true here =
      let same : n ≡ q = grind (arith, nat_tests) in
      let empty : has_name id (tree.get nat_cmp m q) ≡ false = subst (λ p. has_name id (tree.get nat_cmp m p) ≡ false) same (ap (has_name id) (none_next (tree.get nat_cmp m n) refl)) in
      rw (added.0 (id, q), put.0 q, held.named id q, empty, is_name_at r.id id n q, here, and_right_true (bytes_eq r.id id), cond_self (bytes_eq r.id id)) (bytes_eq-sym r.id id)
  named_more m' s' r put added id q false apart =
      rw (added.0 (id, q), put.0 q, is_name_at r.id id n q, apart, and_right_false (bytes_eq r.id id)) (held.named id q)

  below_more : (m' : BTreeMap ℕ EventRow) (r : EventRow) → tree.Updates nat_cmp m m' n (Some r) → (q : ℕ) (b : Bool) → is_eq (nat_cmp n q) ≡ b → IsSome (tree.get nat_cmp m' q) → q < n + 1
  below_more m' r put q true here found = grind (arith, nat_tests)
  below_more m' r put q false apart found = omega (arith, held.below q (subst (λ o. IsSome o) (put.0 q ∙ ap (λ b. cond b (Some r) (tree.get nat_cmp m q)) apart) found))

  pub held_more : (m' : BTreeMap ℕ EventRow) (s' : BTreeSet (List ℕ × ℕ)) (r : EventRow) (next : ℕ) → next ≡ n + 1 → PutsRow m n r m' → sorted.Updates by_id s s' (r.id, n) true → IsHeld m' s' next
  held_more m' s' r next is put added = rw is (record {
    ordered = put.2;
    below = λ q. below_more m' r put.1 q (is_eq (nat_cmp n q)) refl;
    named = λ id q. named_more m' s' r put.1 added id q (is_eq (nat_cmp n q)) refl;
  })

  pub rows_more : (m' : BTreeMap ℕ EventRow) (r : EventRow) → PutsRow m n r m' → values_of m'.entries ≡ values_of m.entries ++ r ∷ []
  rows_more m' r put = ap values_of put.0 ∙ pushed n r m.entries held.below

  -- ## An id taken back

  named_undone : (s' s'' : BTreeSet (List ℕ × ℕ)) (own : List ℕ) → sorted.Updates by_id s s' (own, n) true → sorted.Updates by_id s' s'' (own, n) false
      → (id : List ℕ) (q : ℕ) (b : Bool) → is_eq (by_id (own, n) (id, q)) ≡ b → is_named s'' id q ≡ has_name id (tree.get nat_cmp m q)
  named_undone s' s'' own added removed id q true here =
      let at_next : is_eq (nat_cmp n q) ≡ true = second (bytes_eq own id) (is_eq (nat_cmp n q)) (sym (is_name_at own id n q) ∙ here) in
      let same : n ≡ q = grind (arith, nat_tests) in
      let empty : has_name id (tree.get nat_cmp m q) ≡ false = subst (λ p. has_name id (tree.get nat_cmp m p) ≡ false) same (ap (has_name id) (none_next (tree.get nat_cmp m n) refl)) in
      rw (removed.0 (id, q), here, empty) refl
    where
      second : (a b : Bool) → (a && b) ≡ true → b ≡ true
      second true b h = h
      second false b h = absurd (true≢false (sym h))
  named_undone s' s'' own added removed id q false apart = rw (removed.0 (id, q), added.0 (id, q), apart) (held.named id q)

  pub held_undone : (s' s'' : BTreeSet (List ℕ × ℕ)) (m' : BTreeMap ℕ EventRow) (own : List ℕ) → tree.IsUnchanged m m' → sorted.Updates by_id s s' (own, n) true → sorted.Updates by_id s' s'' (own, n) false → IsHeld m' s'' n
  held_undone s' s'' m' own same added removed = record {
    ordered = subst (λ es. IsStrictlySortedBy nat_cmp (keys_of es)) (sym same) held.ordered;
    below = λ q found. held.below q (subst (λ es. IsSome (lookup (is_at (nat_cmp q)) es)) same found);
    named = λ id q. named_undone s' s'' own added removed id q (is_eq (by_id (own, n) (id, q))) refl ∙ ap (λ es. has_name id (lookup (is_at (nat_cmp q)) es)) (sym same);
  }

  -- ## By the first place of an id

  module _ (id : List ℕ) where
    pub none_held : IsFirstPlace s id None → NoneNamed id m.entries
    none_held none = none_named id m.entries held.ordered (λ q. sym (held.named id q) ∙ none q)

    pub first_held : (p : ℕ) → IsFirstPlace s id (Some p) → (r : EventRow) × (row_in m.entries p ≡ Some r) × FirstAt id p r m.entries
    first_held p first = first_at id p m.entries held.ordered (sym (held.named id p) ∙ first.0) (λ q has. first.1 q (held.named id q ∙ has))

    pub found_none : IsFirstPlace s id None → find (has_id id) (values_of m.entries) ≡ None
    found_none none = find_none id m.entries (none_held none)

    pub found_first : (p : ℕ) → IsFirstPlace s id (Some p) → find (has_id id) (values_of m.entries) ≡ row_in m.entries p
    found_first p first = let row = first_held p first in find_first id p row.0 m.entries row.2 ∙ sym row.1

    pub unchanged_none : (f : EventRow → EventRow) → IsFirstPlace s id None → change_row id f (values_of m.entries) ≡ values_of m.entries
    unchanged_none f none = change_none id f m.entries (none_held none)

    pub changed_first : (f : EventRow → EventRow) (p : ℕ) → IsFirstPlace s id (Some p) → (r w : EventRow) → row_in m.entries p ≡ Some r → w ≡ f r → values_of (set_value (is_at (nat_cmp p)) m.entries w) ≡ change_row id f (values_of m.entries)
    changed_first f p first r w there is =
        let row = first_held p first in
        let same : Some row.0 ≡ Some r = sym row.1 ∙ there in
        let is_row : row.0 ≡ r = cc in
        change_first id f p row.0 w m.entries row.2 (is ∙ ap f (sym is_row))

    pub removed_none : IsFirstPlace s id None → remove_row id (values_of m.entries) ≡ values_of m.entries
    removed_none none = remove_none id m.entries (none_held none)

    pub removed_first : (p : ℕ) → IsFirstPlace s id (Some p) → (m' : BTreeMap ℕ EventRow) → TakesRow m p m' → values_of m'.entries ≡ remove_row id (values_of m.entries)
    removed_first p first m' taken = let row = first_held p first in ap values_of taken.0 ∙ remove_first id p row.0 m.entries row.2

    -- ## A row fewer

    named_fewer : (p : ℕ) → is_named s id p ≡ true → (m' : BTreeMap ℕ EventRow) (s' : BTreeSet (List ℕ × ℕ)) → tree.Updates nat_cmp m m' p None → sorted.Updates by_id s s' (id, p) false
        → (other : List ℕ) (q : ℕ) (b : Bool) → is_eq (nat_cmp p q) ≡ b → is_named s' other q ≡ has_name other (tree.get nat_cmp m' q)
    named_fewer p first m' s' taken removed other q true here =
        let same : p ≡ q = grind (arith, nat_tests) in
        let there : has_name id (tree.get nat_cmp m q) ≡ true = subst (λ x. has_name id (tree.get nat_cmp m x) ≡ true) same (sym (held.named id p) ∙ first) in
        rw (removed.0 (other, q), taken.0 q, held.named other q, is_name_at id other p q, here, and_right_true (bytes_eq id other)) (only (tree.get nat_cmp m q) there (bytes_eq id other) refl)
      where
        only : (o : Option EventRow) → has_name id o ≡ true → (b : Bool) → bytes_eq id other ≡ b → cond b false (has_name other o) ≡ false
        only o there true same = refl
        only None there false apart = refl
        only (Some r) there false apart = subst (λ x. bytes_eq other x ≡ false) (bytes_eq-true id r.id there) (bytes_eq-sym other id ∙ apart)
    named_fewer p first m' s' taken removed other q false apart =
        rw (removed.0 (other, q), taken.0 q, is_name_at id other p q, apart, and_right_false (bytes_eq id other)) (held.named other q)

    pub held_fewer : (p : ℕ) → IsFirstPlace s id (Some p) → (m' : BTreeMap ℕ EventRow) (s' : BTreeSet (List ℕ × ℕ)) → TakesRow m p m' → sorted.Updates by_id s s' (id, p) false → IsHeld m' s' n
    held_fewer p first m' s' taken removed = record {
      ordered = taken.2;
      below = λ q. below_fewer q (is_eq (nat_cmp p q)) refl;
      named = λ other q. named_fewer p first.0 m' s' taken.1 removed other q (is_eq (nat_cmp p q)) refl;
    }
      where
        below_fewer : (q : ℕ) (b : Bool) → is_eq (nat_cmp p q) ≡ b → IsSome (tree.get nat_cmp m' q) → q < n
        below_fewer q true here found = absurd (true≢false (sym (ap (λ o. is_some o) (sym (taken.1.0 q ∙ ap (λ b. cond b None (tree.get nat_cmp m q)) here)) ∙ found)))
        below_fewer q false apart found = held.below q (subst (λ o. IsSome o) (taken.1.0 q ∙ ap (λ b. cond b None (tree.get nat_cmp m q)) apart) found)
