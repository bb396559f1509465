-- Keys that come and go.
use Rattle.std.proofs.Common.{◌≡◌, ℕ, ◌==◌, List, [], ◌∷◌, ◌++◌, Bool, true, false, not, ◌&&◌, ◌||◌, cond, Option, Some, None, refl, sym, ap, ◌∙◌, subst}
use Rattle.std.specs.List.{list_any}
use Rattle.std.specs.Ordering.{nat_cmp, is_eq, ordering_then}
use Rattle.std.specs.declared.cmp.Ordering.{Ordering}
use Rattle.std.specs.declared.cmp.Ordering.TheVariants.{Less, Equal, Greater}
use Rattle.std.specs.Cmp.{unsigned_tied}
use Rattle.std.specs.BTreeMap.{is_at}
use Rattle.std.specs.BTreeSet as sorted
use Rattle.std.specs.BTreeSet.{BTreeSet, contains}
use Rattle.std.proofs.lemmas.Bool.{true≢false, eqb-true, and_parts}
use Rattle.async_core.specs.declared.keys.Facts.{Facts}
use Rattle.async_core.specs.declared.keys.Index.{Index}
use Rattle.async_core.specs.declared.keys.Index.TheVariants.{Ripe, Deadline, Running, Environment, Idle, Success, Failure}
use Rattle.async_core.specs.Keys.{Key, index_rank, by_key, key_in, has_key, AreKeys, put_facts, is_among, AddsKeys, AddsSome, DropsKeys, every_index}

same_index : (i j : Index) → (index_rank i == index_rank j) ≡ true → i ≡ j
same_index Ripe Ripe h = refl
same_index Ripe Deadline h = absurd (true≢false (sym h))
same_index Ripe Running h = absurd (true≢false (sym h))
same_index Ripe Environment h = absurd (true≢false (sym h))
same_index Ripe Idle h = absurd (true≢false (sym h))
same_index Ripe Success h = absurd (true≢false (sym h))
same_index Ripe Failure h = absurd (true≢false (sym h))
same_index Deadline Ripe h = absurd (true≢false (sym h))
same_index Deadline Deadline h = refl
same_index Deadline Running h = absurd (true≢false (sym h))
same_index Deadline Environment h = absurd (true≢false (sym h))
same_index Deadline Idle h = absurd (true≢false (sym h))
same_index Deadline Success h = absurd (true≢false (sym h))
same_index Deadline Failure h = absurd (true≢false (sym h))
same_index Running Ripe h = absurd (true≢false (sym h))
same_index Running Deadline h = absurd (true≢false (sym h))
same_index Running Running h = refl
same_index Running Environment h = absurd (true≢false (sym h))
same_index Running Idle h = absurd (true≢false (sym h))
same_index Running Success h = absurd (true≢false (sym h))
same_index Running Failure h = absurd (true≢false (sym h))
same_index Environment Ripe h = absurd (true≢false (sym h))
same_index Environment Deadline h = absurd (true≢false (sym h))
same_index Environment Running h = absurd (true≢false (sym h))
same_index Environment Environment h = refl
same_index Environment Idle h = absurd (true≢false (sym h))
same_index Environment Success h = absurd (true≢false (sym h))
same_index Environment Failure h = absurd (true≢false (sym h))
same_index Idle Ripe h = absurd (true≢false (sym h))
same_index Idle Deadline h = absurd (true≢false (sym h))
same_index Idle Running h = absurd (true≢false (sym h))
same_index Idle Environment h = absurd (true≢false (sym h))
same_index Idle Idle h = refl
same_index Idle Success h = absurd (true≢false (sym h))
same_index Idle Failure h = absurd (true≢false (sym h))
same_index Success Ripe h = absurd (true≢false (sym h))
same_index Success Deadline h = absurd (true≢false (sym h))
same_index Success Running h = absurd (true≢false (sym h))
same_index Success Environment h = absurd (true≢false (sym h))
same_index Success Idle h = absurd (true≢false (sym h))
same_index Success Success h = refl
same_index Success Failure h = absurd (true≢false (sym h))
same_index Failure Ripe h = absurd (true≢false (sym h))
same_index Failure Deadline h = absurd (true≢false (sym h))
same_index Failure Running h = absurd (true≢false (sym h))
same_index Failure Environment h = absurd (true≢false (sym h))
same_index Failure Idle h = absurd (true≢false (sym h))
same_index Failure Success h = absurd (true≢false (sym h))
same_index Failure Failure h = refl

pub tie_both : (a b : Ordering) → is_eq (ordering_then a b) ≡ (is_eq a && is_eq b)
tie_both Less b = refl
tie_both Equal b = refl
tie_both Greater b = refl

-- two keys tie where they are the same
pub tie_keys : (j i : Index) (x a y b p q : ℕ) → is_eq (by_key (index_rank j, x, y, p) (index_rank i, a, b, q)) ≡ ((index_rank j == index_rank i) && (x == a) && (y == b) && (p == q))
tie_keys j i x a y b p q =
    let ranks = nat_cmp (index_rank j) (index_rank i) in
    tie_both (ordering_then (ordering_then ranks (nat_cmp x a)) (nat_cmp y b)) (nat_cmp p q)
    ∙ rw (tie_both (ordering_then ranks (nat_cmp x a)) (nat_cmp y b), tie_both ranks (nat_cmp x a), unsigned_tied (index_rank j) (index_rank i), unsigned_tied x a, unsigned_tied y b, unsigned_tied p q) refl

-- ## One key

both_equal : (x y a b : ℕ) → ((x == a) && (y == b)) ≡ true → (x ≡ a) × (y ≡ b)
both_equal x y a b h = let parts = and_parts (x == a) (y == b) h in (eqb-true x a parts.0, eqb-true y b parts.1)

comes : (x y z old : Bool) → cond (true && x && y && z) true old ≡ (old || ((true || false) && z && (x && y)))
comes true true true true = refl
comes true true true false = refl
comes true true false true = refl
comes true true false false = refl
comes true false true true = refl
comes true false true false = refl
comes true false false true = refl
comes true false false false = refl
comes false true true true = refl
comes false true true false = refl
comes false true false true = refl
comes false true false false = refl
comes false false true true = refl
comes false false true false = refl
comes false false false true = refl
comes false false false false = refl

stays : (x y z w old : Bool) → cond (false && x && y && z) true old ≡ (old || ((false || false) && z && w))
stays x y z w true = refl
stays x y z w false = refl

module _ (place : ℕ) (facts : Facts) (j : Index) (at : ℕ × ℕ) (key : key_in facts j ≡ Some at) (old new : BTreeSet Key) where
  added_by : sorted.Updates by_key old new (index_rank j, at.0, at.1, place) true → (i : Index) (a b q : ℕ) (same : Bool) → (index_rank j == index_rank i) ≡ same
      → contains by_key new (index_rank i, a, b, q) ≡ (contains by_key old (index_rank i, a, b, q) || (is_among (j ∷ []) i && (place == q) && has_key (Some facts) i a b))
  added_by update i a b q true same =
      let here : key_in facts i ≡ Some at = subst (λ k. key_in facts k ≡ Some at) (same_index j i same) key in
      rw (update.0 (index_rank i, a, b, q), tie_keys j i at.0 a at.1 b place q, same, here) (comes (at.0 == a) (at.1 == b) (place == q) (contains by_key old (index_rank i, a, b, q)))
  added_by update i a b q false apart =
      rw (update.0 (index_rank i, a, b, q), tie_keys j i at.0 a at.1 b place q, apart) (stays (at.0 == a) (at.1 == b) (place == q) (has_key (Some facts) i a b) (contains by_key old (index_rank i, a, b, q)))

  pub added : sorted.Updates by_key old new (index_rank j, at.0, at.1, place) true → AddsKeys place (Some facts) (j ∷ []) old new
  added update = λ i a b q. added_by update i a b q (index_rank j == index_rank i) refl

  goes : (x y z kept old : Bool) → ((x && y) ≡ true → kept ≡ false) → cond (true && x && y && z) false old ≡ (old && not ((true || false) && z && (x && y) && not kept))
  goes true true true true old h = absurd (true≢false (h refl))
  goes true true true false true h = refl
  goes true true true false false h = refl
  goes true true false kept true h = refl
  goes true true false kept false h = refl
  goes true false true kept true h = refl
  goes true false true kept false h = refl
  goes true false false kept true h = refl
  goes true false false kept false h = refl
  goes false y true kept true h = refl
  goes false y true kept false h = refl
  goes false y false kept true h = refl
  goes false y false kept false h = refl

  remains : (x y z w v old : Bool) → cond (false && x && y && z) false old ≡ (old && not ((false || false) && z && w && v))
  remains x y z w v true = refl
  remains x y z w v false = refl

  dropped_by : (kept : Option Facts) → has_key kept j at.0 at.1 ≡ false → sorted.Updates by_key old new (index_rank j, at.0, at.1, place) false → (i : Index) (a b q : ℕ) (same : Bool) → (index_rank j == index_rank i) ≡ same
      → contains by_key new (index_rank i, a, b, q) ≡ (contains by_key old (index_rank i, a, b, q) && not (is_among (j ∷ []) i && (place == q) && has_key (Some facts) i a b && not (has_key kept i a b)))
  dropped_by kept unkept update i a b q true same =
      let is : j ≡ i = same_index j i same in
      let here : key_in facts i ≡ Some at = subst (λ k. key_in facts k ≡ Some at) is key in
      let unkept_here : has_key kept i at.0 at.1 ≡ false = subst (λ k. has_key kept k at.0 at.1 ≡ false) is unkept in
      rw (update.0 (index_rank i, a, b, q), tie_keys j i at.0 a at.1 b place q, same, here)
      (goes (at.0 == a) (at.1 == b) (place == q) (has_key kept i a b) (contains by_key old (index_rank i, a, b, q))
      (λ h. let e = both_equal at.0 at.1 a b h in subst (λ x. has_key kept i x b ≡ false) e.0 (subst (λ y. has_key kept i at.0 y ≡ false) e.1 unkept_here)))
  dropped_by kept unkept update i a b q false apart =
      rw (update.0 (index_rank i, a, b, q), tie_keys j i at.0 a at.1 b place q, apart) (remains (at.0 == a) (at.1 == b) (place == q) (has_key (Some facts) i a b) (not (has_key kept i a b)) (contains by_key old (index_rank i, a, b, q)))

  pub dropped : (kept : Option Facts) → has_key kept j at.0 at.1 ≡ false → sorted.Updates by_key old new (index_rank j, at.0, at.1, place) false → DropsKeys place (Some facts) kept (j ∷ []) old new
  dropped kept unkept update = λ i a b q. dropped_by kept unkept update i a b q (index_rank j == index_rank i) refl

-- an event that keeps its key there drops none
whole : (x y z kept old : Bool) → ((x && y) ≡ true → kept ≡ true) → old ≡ (old && not ((true || false) && z && (x && y) && not kept))
whole x y z kept false h = refl
whole true true true true true h = refl
whole true true true false true h = absurd (true≢false (sym (h refl)))
whole true true false kept true h = refl
whole true false true kept true h = refl
whole true false false kept true h = refl
whole false y true kept true h = refl
whole false y false kept true h = refl

away : (z w v old : Bool) → old ≡ (old && not ((false || false) && z && w && v))
away z w v true = refl
away z w v false = refl

module _ (place : ℕ) (facts : Facts) (j : Index) (at : ℕ × ℕ) (key : key_in facts j ≡ Some at) (s : BTreeSet Key) (kept : Option Facts) (keeps : has_key kept j at.0 at.1 ≡ true) where
  kept_by : (i : Index) (a b q : ℕ) (same : Bool) → (index_rank j == index_rank i) ≡ same
      → contains by_key s (index_rank i, a, b, q) ≡ (contains by_key s (index_rank i, a, b, q) && not (is_among (j ∷ []) i && (place == q) && has_key (Some facts) i a b && not (has_key kept i a b)))
  kept_by i a b q true same =
      let is : j ≡ i = same_index j i same in
      let here : key_in facts i ≡ Some at = subst (λ k. key_in facts k ≡ Some at) is key in
      let keeps_here : has_key kept i at.0 at.1 ≡ true = subst (λ k. has_key kept k at.0 at.1 ≡ true) is keeps in
      rw (same, here)
      (whole (at.0 == a) (at.1 == b) (place == q) (has_key kept i a b) (contains by_key s (index_rank i, a, b, q))
      (λ h. let e = both_equal at.0 at.1 a b h in subst (λ x. has_key kept i x b ≡ true) e.0 (subst (λ y. has_key kept i at.0 y ≡ true) e.1 keeps_here)))
  kept_by i a b q false apart = rw apart (away (place == q) (has_key (Some facts) i a b) (not (has_key kept i a b)) (contains by_key s (index_rank i, a, b, q)))

  pub kept_whole : DropsKeys place (Some facts) kept (j ∷ []) s s
  kept_whole = λ i a b q. kept_by i a b q (index_rank j == index_rank i) refl

-- ## One index after others

among_more : (xs ys : List Index) (i : Index) → is_among (xs ++ ys) i ≡ (is_among xs i || is_among ys i)
among_more [] ys i = refl
among_more (x ∷ xs) ys i = first (index_rank x == index_rank i) (is_among xs i) (is_among ys i) (is_among (xs ++ ys) i) (among_more xs ys i)
  where
    first : (b m n more : Bool) → more ≡ (m || n) → (b || more) ≡ (b || m || n)
    first true m n more h = refl
    first false m n more h = h

pub adds_none : (place : ℕ) (facts : Option Facts) (s : BTreeSet Key) → AddsKeys place facts [] s s
adds_none place facts s i a b q = no_more (contains by_key s (index_rank i, a, b, q))
  where
    no_more : (b : Bool) → b ≡ (b || false)
    no_more true = refl
    no_more false = refl

pub adds_then : (place : ℕ) (facts : Option Facts) (xs ys : List Index) (s t u : BTreeSet Key) → AddsKeys place facts xs s t → AddsKeys place facts ys t u → AddsKeys place facts (xs ++ ys) s u
adds_then place facts xs ys s t u first second i a b q =
    second i a b q ∙ rw (first i a b q, among_more xs ys i) (joined (contains by_key s (index_rank i, a, b, q)) (is_among xs i) (is_among ys i) (place == q) (has_key facts i a b))
  where
    joined : (old m n here has : Bool) → ((old || (m && here && has)) || (n && here && has)) ≡ (old || ((m || n) && here && has))
    joined true m n here has = refl
    joined false true true true true = refl
    joined false true true true false = refl
    joined false true true false has = refl
    joined false true false true true = refl
    joined false true false true false = refl
    joined false true false false has = refl
    joined false false n here has = refl

pub drops_none : (place : ℕ) (lost kept : Option Facts) (s : BTreeSet Key) → DropsKeys place lost kept [] s s
drops_none place lost kept s i a b q = all_stay (contains by_key s (index_rank i, a, b, q))
  where
    all_stay : (b : Bool) → b ≡ (b && true)
    all_stay true = refl
    all_stay false = refl

pub drops_then : (place : ℕ) (gone kept : Option Facts) (xs ys : List Index) (s t u : BTreeSet Key) → DropsKeys place gone kept xs s t → DropsKeys place gone kept ys t u → DropsKeys place gone kept (xs ++ ys) s u
drops_then place gone kept xs ys s t u first second i a b q =
    second i a b q ∙ rw (first i a b q, among_more xs ys i) (joined (contains by_key s (index_rank i, a, b, q)) (is_among xs i) (is_among ys i) (place == q) (has_key gone i a b) (not (has_key kept i a b)))
  where
    joined : (old m n here has lost : Bool) → ((old && not (m && here && has && lost)) && not (n && here && has && lost)) ≡ (old && not ((m || n) && here && has && lost))
    joined false m n here has lost = refl
    joined true true n true true true = refl
    joined true true true true true false = refl
    joined true true false true true false = refl
    joined true true true true false lost = refl
    joined true true false true false lost = refl
    joined true true true false has lost = refl
    joined true true false false has lost = refl
    joined true false n here has lost = refl

-- nothing changes after them
pub adds_same : (place : ℕ) (facts : Option Facts) (xs : List Index) (s t u : BTreeSet Key) → AddsKeys place facts xs s t → sorted.IsUnchanged t u → AddsKeys place facts xs s u
adds_same place facts xs s t u first same i a b q = ap (λ keys. list_any (is_at (by_key (index_rank i, a, b, q))) keys) same ∙ first i a b q

-- ## A change of an event

pub every_is_among : (i : Index) → is_among every_index i ≡ true
every_is_among Ripe = refl
every_is_among Deadline = refl
every_is_among Running = refl
every_is_among Environment = refl
every_is_among Idle = refl
every_is_among Success = refl
every_is_among Failure = refl

module _ (place : ℕ) (at : ℕ → Option Facts) (old new : Option Facts) (s t u : BTreeSet Key) (keys : AreKeys at s) (is : at place ≡ old) where
  switched : (b held has_old has_new : Bool) → (b ≡ true → held ≡ has_old) → ((held || (true && b && has_new)) && not (true && b && has_old && not has_new)) ≡ cond b has_new held
  switched true true true true h = refl
  switched true true true false h = refl
  switched true true false m h = absurd (true≢false (h refl))
  switched true false true m h = absurd (true≢false (sym (h refl)))
  switched true false false true h = refl
  switched true false false false h = refl
  switched false true n m h = refl
  switched false false n m h = refl

  at_place : (q : ℕ) (i : Index) (a b : ℕ) → (place == q) ≡ true → has_key (at q) i a b ≡ has_key old i a b
  at_place q i a b here = ap (λ f. has_key f i a b) (ap at (sym (eqb-true place q here)) ∙ is)

  put_at : (q : ℕ) (i : Index) (a b : ℕ) (here : Bool) → (place == q) ≡ here → has_key (put_facts place new at q) i a b ≡ cond here (has_key new i a b) (has_key (at q) i a b)
  put_at q i a b true here = rw here refl
  put_at q i a b false here = rw here refl

  -- the new keys come, and then those of the old ones go that are not new
  pub keys_switched : AddsKeys place new every_index s t → DropsKeys place old new every_index t u → AreKeys (put_facts place new at) u
  keys_switched adds drops = λ i a b q.
      drops i a b q
      ∙ rw (adds i a b q, keys i a b q, every_is_among i) (switched (place == q) (has_key (at q) i a b) (has_key old i a b) (has_key new i a b) (at_place q i a b))
      ∙ sym (put_at q i a b (place == q) refl)

  undone : (m b held has_old has_new : Bool) → (b ≡ true → held ≡ has_old) → ((held || (m && b && has_new)) && not (true && b && has_new && not has_old)) ≡ held
  undone m true true true true h = refl
  undone m true true true false h = refl
  undone m true true false n h = absurd (true≢false (h refl))
  undone m true false true n h = absurd (true≢false (sym (h refl)))
  undone true true false false true h = refl
  undone true true false false false h = refl
  undone false true false false n h = refl
  undone true false true n o h = refl
  undone true false false n o h = refl
  undone false false true n o h = refl
  undone false false false n o h = refl

  -- some of the new keys came, and then those go that are not old
  pub keys_undone : AddsSome place new s t → DropsKeys place new old every_index t u → AreKeys at u
  keys_undone adds drops = λ i a b q.
      drops i a b q
      ∙ rw (adds.1 i a b q, keys i a b q, every_is_among i) (undone (is_among adds.0 i) (place == q) (has_key (at q) i a b) (has_key old i a b) (has_key new i a b) (at_place q i a b))

  fewer : (b held has_old : Bool) → (b ≡ true → held ≡ has_old) → (held && not (true && b && has_old && not false)) ≡ cond b false held
  fewer true true true h = refl
  fewer true true false h = absurd (true≢false (h refl))
  fewer true false true h = absurd (true≢false (sym (h refl)))
  fewer true false false h = refl
  fewer false true n h = refl
  fewer false false n h = refl

  -- the old keys go
  pub keys_gone : new ≡ None → DropsKeys place old None every_index s u → AreKeys (put_facts place None at) u
  keys_gone none drops = λ i a b q.
      drops i a b q
      ∙ rw (keys i a b q, every_is_among i) (fewer (place == q) (has_key (at q) i a b) (has_key old i a b) (at_place q i a b))
      ∙ sym (gone_at q i a b (place == q) refl)
    where
      gone_at : (q : ℕ) (i : Index) (a b : ℕ) (here : Bool) → (place == q) ≡ here → has_key (put_facts place None at q) i a b ≡ cond here false (has_key (at q) i a b)
      gone_at q i a b true here = rw here refl
      gone_at q i a b false here = rw here refl

  inserted : (b held has_new : Bool) → (b ≡ true → held ≡ false) → (held || (true && b && has_new)) ≡ cond b has_new held
  inserted true true n h = absurd (true≢false (h refl))
  inserted true false n h = refl
  inserted false true n h = refl
  inserted false false n h = refl

  -- the new keys come where there were none
  pub keys_inserted : old ≡ None → AddsKeys place new every_index s u → AreKeys (put_facts place new at) u
  keys_inserted none adds = λ i a b q.
      adds i a b q
      ∙ rw (keys i a b q, every_is_among i) (inserted (place == q) (has_key (at q) i a b) (has_key new i a b) (λ here. at_place q i a b here ∙ ap (λ f. has_key f i a b) none))
      ∙ sym (put_at q i a b (place == q) refl)
