-- The indexes stay those of the rows, and the first row of an index.
use Rattle.std.proofs.Common.{◌≡◌, ℕ, ◌+◌, ◌≤◌, zero, suc, List, [], ◌∷◌, ◌++◌, Bool, true, false, ◌&&◌, ◌==◌, cond, Option, Some, None, refl, sym, ap, ◌∙◌, subst, arith, inl, inr, All, Contains, nat_le}
use Rattle.std.specs.Prelude.{IsSome, option_map, IfSome}
use Rattle.std.specs.Map.{lookup, set_value, values_of, keys_of}
use Rattle.std.specs.Str.{bytes_eq}
use Rattle.std.specs.BTreeMap as tree
use Rattle.std.specs.BTreeSet as sorted
use Rattle.std.specs.BTreeMap.{BTreeMap, is_at}
use Rattle.std.specs.BTreeSet.{BTreeSet, contains}
use Rattle.std.specs.Ordering.{nat_cmp, is_eq}
use Rattle.std.specs.Cmp.{nat_cmp_total, unsigned_tied}
use Rattle.std.proofs.lemmas.Bool.{true≢false, and_parts, and_from, eqb-true, eq-eqb, leb-true, leb-false, le-leb}
use Rattle.std.proofs.lemmas.Cmp.{eq_by_cmp_equiv}
use Rattle.std.proofs.lemmas.Map.Keys.{IsDistinct-from_sorted}
use Rattle.std.proofs.lemmas.Map.Views.{All-values_from_lookup}
use Rattle.invoke_records.specs.declared.row.EventRow.{EventRow}
use Rattle.async_core.specs.declared.keys.Facts.{Facts}
use Rattle.async_core.specs.declared.keys.Index.{Index}
use Rattle.async_core.specs.Choice.{NotBefore}
use Rattle.invoke_records.specs.declared.row.Standing.TheVariants.{Unknown}
use Rattle.async_core.specs.declared.tally.Tally.{Tally}
use Rattle.async_core.specs.Tallies.{IsTallied, Retallies}
use Rattle.async_core.specs.Ids.{by_id, is_named, has_name, PutsRow, TakesRow, IsFirstPlace}
use Rattle.async_core.specs.Keys.{Key, index_rank, by_key, facts_of, key_in, is_key, has_key, AreKeys, put_facts, Switches, StaysAt, IsAtMost, IsFirstKey, within, key_within, row_key, IsFirstBy}
use Rattle.async_core.specs.Kept.{facts_in, IsIndexed, Enters, StaysOut}
use Rattle.async_core.proofs.HeldRows.{row_in}
use Rattle.async_core.proofs.Tallied.{tally_more, tally_changed, tally_fewer}
use Rattle.async_core.proofs.HeldIds.{none_next, held_more, held_undone, held_fewer, is_name_at}

-- ## Ids

second : (a b : Bool) → (a && b) ≡ true → b ≡ true
second true b h = h
second false b h = absurd (true≢false (sym h))

forgets_by : (s s' s'' : BTreeSet (List ℕ × ℕ)) (own : List ℕ) (n : ℕ) → sorted.Updates by_id s s' (own, n) true → sorted.Updates by_id s' s'' (own, n) false → ((id : List ℕ) → is_named s id n ≡ false)
    → (id : List ℕ) (q : ℕ) (b : Bool) → is_eq (by_id (own, n) (id, q)) ≡ b → is_named s'' id q ≡ is_named s id q
forgets_by s s' s'' own n added removed absent id q true here =
    let at_next : (n == q) ≡ true = sym (unsigned_tied n q) ∙ second _ (is_eq (nat_cmp n q)) (sym (is_name_at own id n q) ∙ here) in
    rw (removed.0 (id, q), here) (sym (subst (λ p. is_named s id p ≡ false) (eqb-true n q at_next) (absent id)))
forgets_by s s' s'' own n added removed absent id q false apart = rw (removed.0 (id, q), added.0 (id, q), apart) refl

pub forgets : (s s' s'' : BTreeSet (List ℕ × ℕ)) (own : List ℕ) (n : ℕ) → sorted.Updates by_id s s' (own, n) true → sorted.Updates by_id s' s'' (own, n) false → ((id : List ℕ) → is_named s id n ≡ false) → (id : List ℕ) (q : ℕ) → is_named s'' id q ≡ is_named s id q
forgets s s' s'' own n added removed absent id q = forgets_by s s' s'' own n added removed absent id q (is_eq (by_id (own, n) (id, q))) refl

-- ## Facts

alike : (at other : ℕ → Option Facts) (keys : BTreeSet Key) → ((q : ℕ) → at q ≡ other q) → AreKeys at keys → AreKeys other keys
alike at other keys same are = λ i a b q. are i a b q ∙ ap (λ f. has_key f i a b) (same q)

map_cond : (w o : Option EventRow) (b : Bool) → cond b (option_map facts_of w) (option_map facts_of o) ≡ option_map facts_of (cond b w o)
map_cond w o true = refl
map_cond w o false = refl

facts_put : (m m' : BTreeMap ℕ EventRow) (p : ℕ) (w : Option EventRow) → tree.Updates nat_cmp m m' p w → (q : ℕ) → put_facts p (option_map facts_of w) (facts_in m) q ≡ facts_in m' q
facts_put m m' p w update q =
    map_cond w (tree.get nat_cmp m q) (p == q)
    ∙ ap (λ b. option_map facts_of (cond b w (tree.get nat_cmp m q))) (sym (unsigned_tied p q))
    ∙ ap (λ o. option_map facts_of o) (sym (update.0 q))

put_here : (n : ℕ) (f : Option Facts) (at : ℕ → Option Facts) → put_facts n f at n ≡ f
put_here n f at = rw (eq-eqb n n refl) refl

put_back : (n : ℕ) (f : Option Facts) (at : ℕ → Option Facts) → at n ≡ None → (q : ℕ) (b : Bool) → (n == q) ≡ b → put_facts n None (put_facts n f at) q ≡ at q
put_back n f at none q true here = rw here (sym (ap at (sym (eqb-true n q here)) ∙ none))
put_back n f at none q false apart = rw apart refl

pub is_there : (o : Option EventRow) (r : EventRow) → o ≡ Some r → IsSome o
is_there o r is = rw is refl

pub some_injective : {A : Type 0} {x y : A} → Some x ≡ Some y → x ≡ y
some_injective h = cc

module _ (m : BTreeMap ℕ EventRow) (s : BTreeSet (List ℕ × ℕ)) (keys : BTreeSet Key) (tally : Tally) (n : ℕ) (indexed : IsIndexed m s keys tally n) where
  absent : (id : List ℕ) → is_named s id n ≡ false
  absent id = indexed.held.named id n ∙ ap (has_name id) (none_next m s n indexed.held (tree.get nat_cmp m n) refl)

  no_facts : facts_in m n ≡ None
  no_facts = ap (λ o. option_map facts_of o) (none_next m s n indexed.held (tree.get nat_cmp m n) refl)

  -- ## An event that does not come in

  pub stays_out : (s' : BTreeSet (List ℕ × ℕ)) (keys' : BTreeSet Key) → StaysOut n s s' keys keys' → IsIndexed m s' keys' tally n
  stays_out s' keys' stays = record {
    held = record { ordered = indexed.held.ordered; below = indexed.held.below; named = λ id q. stays.0 absent id q ∙ indexed.held.named id q };
    keyed = stays.1 (facts_in m) indexed.keyed no_facts;
    tallied = indexed.tallied;
  }

  pub goes_again : (m' : BTreeMap ℕ EventRow) (s' s'' : BTreeSet (List ℕ × ℕ)) (keys' keys'' : BTreeSet Key) (id : List ℕ) (facts : Facts) → tree.IsUnchanged m m' → Enters n id facts s s' keys keys' → sorted.Updates by_id s' s'' (id, n) false
      → Switches n (Some facts) None keys' keys'' → IsIndexed m' s'' keys'' tally n
  goes_again m' s' s'' keys' keys'' id facts same enters removed switched =
      let entered : AreKeys (put_facts n (Some facts) (facts_in m)) keys' = enters.1 (facts_in m) indexed.keyed no_facts in
      let left : AreKeys (put_facts n None (put_facts n (Some facts) (facts_in m))) keys'' = switched (put_facts n (Some facts) (facts_in m)) entered (put_here n (Some facts) (facts_in m)) in
      record {
        held = held_undone m s n indexed.held s' s'' m' id same enters.0 removed;
        keyed = alike _ (facts_in m') keys'' (λ q. put_back n (Some facts) (facts_in m) no_facts q (n == q) refl ∙ ap (λ es. option_map facts_of (lookup (is_at (nat_cmp q)) es)) (sym same)) left;
        tallied = subst (λ es. IsTallied (values_of es) tally) (sym same) indexed.tallied;
      }

  -- ## An event that comes

  pub comes_in : (m' : BTreeMap ℕ EventRow) (s' : BTreeSet (List ℕ × ℕ)) (keys' : BTreeSet Key) (r : EventRow) (facts : Facts) (now : Tally) (next : ℕ) → facts ≡ facts_of r → next ≡ n + 1 → Retallies tally Unknown r.standing now → PutsRow m n r m' → Enters n r.id facts s s' keys keys'
      → values_of m'.entries ≡ values_of m.entries ++ r ∷ [] → IsIndexed m' s' keys' now next
  comes_in m' s' keys' r facts now next of_row is count put enters rows = record {
    held = held_more m s n indexed.held m' s' r next is put enters.0;
    keyed = alike _ (facts_in m') keys' (facts_put m m' n (Some r) put.1) (subst (λ f. AreKeys (put_facts n (Some f) (facts_in m)) keys') of_row (enters.1 (facts_in m) indexed.keyed no_facts));
    tallied = subst (λ es. IsTallied es now) (sym rows) (tally_more (values_of m.entries) r tally now indexed.tallied count);
  }

  -- ## The first row of an index

  pub rows_all : (P : EventRow → Type 0) → ((q : ℕ) (r : EventRow) → tree.get nat_cmp m q ≡ Some r → P r) → All P (values_of m.entries)
  rows_all P each = All-values_from_lookup (eq_by_cmp_equiv nat_cmp_total) P m.entries (IsDistinct-from_sorted nat_cmp (keys_of m.entries) indexed.held.ordered) (λ q. found q (tree.get nat_cmp m q) refl)
    where
      found : (q : ℕ) (o : Option EventRow) → tree.get nat_cmp m q ≡ o → IfSome (tree.get nat_cmp m q) P
      found q None is = rw is tt
      found q (Some r) is = rw is (each q r is)

  -- a row stands in the set where it stands in an index
  pub stands : (i : Index) (q : ℕ) (r : EventRow) (at : ℕ × ℕ) → tree.get nat_cmp m q ≡ Some r → key_in (facts_of r) i ≡ Some at → contains by_key keys (index_rank i, at.0, at.1, q) ≡ true
  stands i q r at there key =
      indexed.keyed i at.0 at.1 q
      ∙ ap (λ o. has_key (option_map facts_of o) i at.0 at.1) there
      ∙ ap (λ o. is_key o at.0 at.1) key
      ∙ rw (eq-eqb at.0 at.0 refl, eq-eqb at.1 at.1 refl) refl

  low_enough : (low a b : ℕ) → low ≤ a → IsAtMost (low, 0) (a, b)
  low_enough low a b le = by_order (nat_le a low) refl
    where
      by_order : (x : Bool) → nat_le a low ≡ x → IsAtMost (low, 0) (a, b)
      by_order true h = inr (omega (arith, leb-true a low h), omega arith)
      by_order false h = inl (leb-false a low h)

  from_low : (low : ℕ) (last : Option ℕ) (at : ℕ × ℕ) → within low last at ≡ true → low ≤ at.0
  from_low low None at h = leb-true low at.0 h
  from_low low (Some last) at h = leb-true low at.0 (and_parts _ _ h).0

  up_to : (low last : ℕ) (at : ℕ × ℕ) → within low (Some last) at ≡ true → at.0 ≤ last
  up_to low last at h = leb-true at.0 last (and_parts _ _ h).1

  -- a rank of a row is its key, within the bounds
  no_rank : (low : ℕ) (last : Option ℕ) (o : Option (ℕ × ℕ)) → ((at : ℕ × ℕ) → o ≡ Some at → within low last at ≡ true → ⊥) → key_within low last o ≡ None
  no_rank low last None none = refl
  no_rank low last (Some at) none = by_test (within low last at) refl (none at refl)
    where
      by_test : (b : Bool) → within low last at ≡ b → (within low last at ≡ true → ⊥) → cond (within low last at) (Some at) None ≡ None
      by_test true h k = absurd (k h)
      by_test false h k = rw h refl

  pub no_row : (i : Index) (low : ℕ) (last : Option ℕ) → IsFirstKey keys i (low, 0) None → IsFirstBy (row_key i low last) (values_of m.entries) None
  no_row i low last none = rows_all (λ r. row_key i low last r ≡ None) (λ q r there. no_rank low last (key_in (facts_of r) i)
      (λ at key inside. true≢false (sym (stands i q r at there key) ∙ none at.0 at.1 q (low_enough low at.0 at.1 (from_low low last at inside)))))

  not_below : (a b : ℕ × ℕ) → IsAtMost a b → a.0 ≤ b.0
  not_below a b (inl lt) = omega arith
  not_below a b (inr same) = omega (arith, same.0)

  -- what goes before one within the bounds is within them, from the lower one on
  before_within : (low : ℕ) (last : Option ℕ) (first at : ℕ × ℕ) → low ≤ first.0 → first.0 ≤ at.0 → within low last at ≡ true → within low last first ≡ true
  before_within low None first at from le h = le-leb low first.0 from
  before_within low (Some last) first at from le h = and_from _ _ (le-leb low first.0 from) (le-leb first.0 last (omega (arith, up_to low last at h)))

  pub no_row_outside : (i : Index) (low : ℕ) (last : Option ℕ) (first : ℕ × ℕ × ℕ) → IsFirstKey keys i (low, 0) (Some first) → within low last (first.0, first.1) ≡ false → IsFirstBy (row_key i low last) (values_of m.entries) None
  no_row_outside i low last first is outside = rows_all (λ r. row_key i low last r ≡ None) (λ q r there. no_rank low last (key_in (facts_of r) i)
      (λ at key inside.
      let behind = is.2 at.0 at.1 q (low_enough low at.0 at.1 (from_low low last at inside)) (stands i q r at there key) in
      let first_inside = before_within low last (first.0, first.1) at (not_below (low, 0) (first.0, first.1) is.1) (not_below (first.0, first.1) at behind) inside in
      true≢false (sym first_inside ∙ outside)))

  contains_row : (es : List (ℕ × EventRow)) (q : ℕ) (r : EventRow) → row_in es q ≡ Some r → Contains (values_of es) r
  contains_row [] q r there = absurd (cc)
  contains_row (e ∷ es) q r there = by_test (is_eq (nat_cmp q e.0)) refl (contains_row es q r)
    where
      by_test : (b : Bool) → is_eq (nat_cmp q e.0) ≡ b → (row_in es q ≡ Some r → Contains (values_of es) r) → Contains (values_of (e ∷ es)) r
      by_test true here rest = let same : Some e.1 ≡ Some r = ap (λ b. cond b (Some e.1) (row_in es q)) (sym here) ∙ there in (zero, omega arith, some_injective same)
      by_test false apart rest =
          let found = rest (ap (λ b. cond b (Some e.1) (row_in es q)) (sym apart) ∙ there) in
          (suc found.0, omega (arith, found.1), found.2)

  -- the facts that a key belongs to
  keyed_row : (o : Option EventRow) (i : Index) (a b : ℕ) → has_key (option_map facts_of o) i a b ≡ true → (r : EventRow) × (o ≡ Some r) × (key_in (facts_of r) i ≡ Some (a, b))
  keyed_row None i a b h = absurd (true≢false (sym h))
  keyed_row (Some r) i a b h = (r, refl, is_at_key (key_in (facts_of r) i) h)
    where
      is_at_key : (o : Option (ℕ × ℕ)) → is_key o a b ≡ true → o ≡ Some (a, b)
      is_at_key None h = absurd (true≢false (sym h))
      is_at_key (Some t) h = let parts = and_parts (t.0 == a) (t.1 == b) h in rw (← eqb-true t.0 a parts.0, ← eqb-true t.1 b parts.1) refl

  least_of : (low : ℕ) (last : Option ℕ) (first : ℕ × ℕ) (o : Option (ℕ × ℕ)) → ((at : ℕ × ℕ) → o ≡ Some at → within low last at ≡ true → IsAtMost first at) → NotBefore first (key_within low last o)
  least_of low last first None each = tt
  least_of low last first (Some at) each = by_test (within low last at) refl (each at refl)
    where
      by_test : (b : Bool) → within low last at ≡ b → (within low last at ≡ true → IsAtMost first at) → NotBefore first (cond (within low last at) (Some at) None)
      by_test true h k = rw h (k h)
      by_test false h k = rw h tt

  pub first_row : (i : Index) (low : ℕ) (last : Option ℕ) (first : ℕ × ℕ × ℕ) → IsFirstKey keys i (low, 0) (Some first) → within low last (first.0, first.1) ≡ true → (found : Option EventRow) → found ≡ tree.get nat_cmp m first.2 → IsFirstBy (row_key i low last) (values_of m.entries) found
  first_row i low last first is inside found same =
      let row = keyed_row (tree.get nat_cmp m first.2) i first.0 first.1 (sym (indexed.keyed i first.0 first.1 first.2) ∙ is.0) in
      rw (same, row.1) (record {
        is_there = contains_row m.entries first.2 row.0 row.1;
        at = (first.0, first.1);
        has = ap (key_within low last) row.2 ∙ rw inside refl;
        least = rows_all (λ r. NotBefore (first.0, first.1) (row_key i low last r)) (λ q r there. least_of low last (first.0, first.1) (key_in (facts_of r) i)
            (λ at key within_it. is.2 at.0 at.1 q (low_enough low at.0 at.1 (from_low low last at within_it)) (stands i q r at there key)));
      })

  -- ## A change of an event

  -- the row of an event is another one now
  pub changes : (m' : BTreeMap ℕ EventRow) (keys' : BTreeSet Key) (p : ℕ) (r w : EventRow) (now : Tally) → tree.get nat_cmp m p ≡ Some r → w.id ≡ r.id → m'.entries ≡ set_value (is_at (nat_cmp p)) m.entries w → tree.Updates nat_cmp m m' p (Some w)
      → tree.IsOrdered nat_cmp m' → (old new : Facts) → Retallies tally old.standing new.standing now → old ≡ facts_of r → new ≡ facts_of w → Switches p (Some old) (Some new) keys keys' → IsIndexed m' s keys' now n
  changes m' keys' p r w now there same entries update ordered old new count of_old of_new switched = record {
    held = record {
      ordered = ordered;
      below = λ q found. indexed.held.below q (was_there q (is_at (nat_cmp p) q) refl found);
      named = λ id q. indexed.held.named id q ∙ names_stay id q (is_at (nat_cmp p) q) refl;
    };
    keyed = alike _ (facts_in m') keys' (facts_put m m' p (Some w) update) (subst (λ f. AreKeys (put_facts p (Some f) (facts_in m)) keys') of_new (switched (facts_in m) indexed.keyed (ap (λ o. option_map facts_of o) there ∙ ap (λ f. Some f) (sym of_old))));
    tallied = subst (λ es. IsTallied (values_of es) now) (sym entries) (tally_changed m tally indexed.tallied p r there old of_old w new now of_new count);
  }
    where
      place_same : (q : ℕ) → is_at (nat_cmp p) q ≡ true → p ≡ q
      place_same q here = eqb-true p q (sym (unsigned_tied p q) ∙ here)

      was_there : (q : ℕ) (b : Bool) → is_at (nat_cmp p) q ≡ b → IsSome (tree.get nat_cmp m' q) → IsSome (tree.get nat_cmp m q)
      was_there q true here found = subst (λ x. IsSome (tree.get nat_cmp m x)) (place_same q here) (rw there refl)
      was_there q false apart found = subst (λ o. IsSome o) (update.0 q ∙ ap (λ b. cond b (Some w) (tree.get nat_cmp m q)) apart) found

      names_stay : (id : List ℕ) (q : ℕ) (b : Bool) → is_at (nat_cmp p) q ≡ b → has_name id (tree.get nat_cmp m q) ≡ has_name id (tree.get nat_cmp m' q)
      names_stay id q true here =
          ap (has_name id) (subst (λ x. tree.get nat_cmp m x ≡ Some r) (place_same q here) there) ∙ ap (bytes_eq id) (sym same)
          ∙ ap (has_name id) (sym (update.0 q ∙ ap (λ b. cond b (Some w) (tree.get nat_cmp m q)) here))
      names_stay id q false apart = ap (has_name id) (sym (update.0 q ∙ ap (λ b. cond b (Some w) (tree.get nat_cmp m q)) apart))

  pub stays : (keys' : BTreeSet Key) (p : ℕ) (r : EventRow) (old : Facts) → tree.get nat_cmp m p ≡ Some r → old ≡ facts_of r → StaysAt p (Some old) keys keys' → IsIndexed m s keys' tally n
  stays keys' p r old there of_old same = record {
    held = indexed.held;
    keyed = same (facts_in m) indexed.keyed (ap (λ o. option_map facts_of o) there ∙ ap (λ f. Some f) (sym of_old));
    tallied = indexed.tallied;
  }

  -- ## An event that goes

  pub goes : (m' : BTreeMap ℕ EventRow) (s' : BTreeSet (List ℕ × ℕ)) (keys' : BTreeSet Key) (id : List ℕ) (p : ℕ) (r : EventRow) (now : Tally) → IsFirstPlace s id (Some p) → tree.get nat_cmp m p ≡ Some r → TakesRow m p m' → sorted.Updates by_id s s' (id, p) false
      → (old : Facts) → Retallies tally old.standing Unknown now → old ≡ facts_of r → Switches p (Some old) None keys keys' → IsIndexed m' s' keys' now n
  goes m' s' keys' id p r now first there taken removed old count of_old switched = record {
    held = held_fewer m s n indexed.held id p first m' s' taken removed;
    keyed = alike _ (facts_in m') keys' (facts_put m m' p None taken.1) (switched (facts_in m) indexed.keyed (ap (λ o. option_map facts_of o) there ∙ ap (λ f. Some f) (sym of_old)));
    tallied = subst (λ es. IsTallied (values_of es) now) (sym taken.0) (tally_fewer m tally indexed.tallied p r there old of_old now count);
  }
