-- Each step keeps the rule.
use Rattle.std.proofs.Common.{◌≡◌, ◌≢◌, ◌⊎◌, inl, inr, ⊎_elim, ℕ, zero, suc, ◌<◌, ◌≤◌, max, List, [], ◌∷◌, ◌++◌, length, set, refl, sym, ◌∙◌, subst, arith}
use Rattle.std.specs.Prelude.{slice_index, slice_set}
use Rattle.std.proofs.lemmas.Bool.{cases_lt}
use mathlib.Core.Option.{some, some-injective}
use lib.ListN.{get_elem?}
use Rattle.atomic_table.proofs.Lists.{at_set, at_snoc, at_longer, set_again}
use Rattle.front_board.specs.declared.rule.SeatView.{SeatView}
use Rattle.front_board.specs.Rule.{ComesFrom, IsFair, IsKept, HasLooked, HasRaised, view}

-- ## Lists

-- one word, set
index_set : (ws : List ℕ) (n : ℕ) → length ws ≡ 1 → (length (slice_set ws 0 n) ≡ 1) × (slice_index (slice_set ws 0 n) 0 ≡ n)
index_set [] n e = absurd (omega arith)
index_set (x ∷ ws) n e = (e, refl)

-- what was set is there
set_here : (l : List SeatView) (i : ℕ) (v w : SeatView) → get_elem? l i ≡ some v → get_elem? (set l i w) i ≡ some w
set_here [] i v w e = absurd (cc)
set_here (x ∷ xs) zero v w e = refl
set_here (x ∷ xs) (suc i) v w e = set_here xs i v w e

-- the view at a place is the one that was replaced, or it is still there
set_elsewhere : (l : List SeatView) (i j : ℕ) (u v w : SeatView) → get_elem? l j ≡ some u → get_elem? l i ≡ some v → (u ≡ v) ⊎ (get_elem? (set l i w) j ≡ some u)
set_elsewhere [] i j u v w e f = inr e
set_elsewhere (x ∷ xs) zero zero u v w e f = inl (sym (some-injective _ _ e) ∙ some-injective _ _ f)
set_elsewhere (x ∷ xs) zero (suc j) u v w e f = inr e
set_elsewhere (x ∷ xs) (suc i) zero u v w e f = inr e
set_elsewhere (x ∷ xs) (suc i) (suc j) u v w e f = set_elsewhere xs i j u v w e f

-- ## Where the word comes from

-- a seat that goes on having raised the word, where it had
comes_same : (opening n id : ℕ) (v w : SeatView) (views : List SeatView) → ComesFrom opening n views → get_elem? views id ≡ some v → (v.raised ≡ n → w.raised ≡ n)
    → ComesFrom opening n (set views id w)
comes_same opening n id v w views (inl e) at same = inl e
comes_same opening n id v w views (inr x) at same =
    elim (set_elsewhere views id x.0 x.1 v w x.2 at) [
      | inl e ↦ inr (id, w, set_here views id v w at, same (subst (λ (y : SeatView). y.raised ≡ n) e x.3))
      | inr e ↦ inr (x.0, x.1, e, x.3)
    ]

-- the greater of the word and what is raised
comes_greater : (opening id : ℕ) (v : SeatView) (n k : ℕ) (views : List SeatView) → IsFair opening n views → get_elem? views id ≡ some v
    → ComesFrom opening (max n k) (set views id (view (max v.raised k) (max n k)))
comes_greater opening id v n k views h at =
    let w = view (max v.raised k) (max n k) in
    let mine = h.1 id v at in
    ⊎_elim
    (λ (gt : n < k). inr (id, w, set_here views id v w at, omega arith))
    (λ (le : k ≤ n).
    let same : n ≡ max n k = omega arith in
    comes_same opening (max n k) id v w views (subst (λ x. ComesFrom opening x views) same h.2) at (λ e. omega arith))
    (cases_lt n k)

-- ## Steps

fair_set : (opening m n id : ℕ) (v w : SeatView) (views : List SeatView) → IsFair opening n views → get_elem? views id ≡ some v → n ≤ m → (w.seen ≤ m) × (w.raised ≤ m)
    → ComesFrom opening m (set views id w) → IsFair opening m (set views id w)
fair_set opening m n id v w views h at up mine comes = (
  (let o = h.0 in omega arith),
  (λ by u e. ⊎_elim
      (λ (t : (by ≡ id) × (w ≡ u)). subst (λ (x : SeatView). (x.seen ≤ m) × (x.raised ≤ m)) t.1 mine)
      (λ (t : (by ≢ id) × (get_elem? views by ≡ some u)). let o = h.1 by u t.1 in (omega arith, omega arith))
      (at_set views id by w u e)),
  comes,
)

-- the greater of two numbers that were given was given
given_greater : (given : ℕ → Type 0) (n k : ℕ) → given n → given k → given (max n k)
given_greater given n k one two =
    ⊎_elim
    (λ (lt : n < k). let e : k ≡ max n k = omega arith in subst given e two)
    (λ (le : k ≤ n). let e : n ≡ max n k = omega arith in subst given e one)
    (cases_lt n k)

pub raises : (given : ℕ → Type 0) (opening id : ℕ) (v : SeatView) (k : ℕ) (words : List ℕ) (views : List SeatView) → IsKept given opening words views → get_elem? views id ≡ some v → given k
    → IsKept given opening (slice_set words 0 (max (slice_index words 0) k)) (set views id (view (max v.raised k) (max (slice_index words 0) k)))
    × HasRaised given k v (slice_index words 0) (view (max v.raised k) (max (slice_index words 0) k))
raises given opening id v k words views h at new =
    let n = slice_index words 0 in
    let m = max n k in
    let w = view (max v.raised k) m in
    let put = index_set words m h.0 in
    let is = given_greater given n k h.1 new in
    let mine = h.2.1 id v at in
    let fair = fair_set opening m n id v w views h.2 at (omega arith) (omega arith, omega arith) (comes_greater opening id v n k views h.2 at) in
    ((put.0, rw put.1 is, rw put.1 fair), (refl, mine.0, is))

pub looks : (given : ℕ → Type 0) (opening id : ℕ) (v : SeatView) (words : List ℕ) (views : List SeatView) → IsKept given opening words views → get_elem? views id ≡ some v
    → IsKept given opening (slice_set words 0 (slice_index words 0)) (set views id (view v.raised (slice_index words 0)))
    × HasLooked given v (slice_index words 0) (view v.raised (slice_index words 0))
looks given opening id v words views h at =
    let n = slice_index words 0 in
    let w = view v.raised n in
    let put = index_set words n h.0 in
    let mine = h.2.1 id v at in
    let fair = fair_set opening n n id v w views h.2 at (omega arith) (omega arith, mine.1) (comes_same opening n id v w views h.2.2 at (λ e. e)) in
    ((put.0, rw put.1 h.1, rw put.1 fair), (refl, mine.0, h.1))

pub sits : (given : ℕ → Type 0) (opening id : ℕ) (v : SeatView) (words : List ℕ) (views : List SeatView) → IsKept given opening words views → get_elem? views id ≡ some v
    → IsKept given opening words (set views id v ++ view 0 v.seen ∷ [])
sits given opening id v words views h at =
    let n = slice_index words 0 in
    let mine = h.2.1 id v at in
    rw (set_again views id v at) (
      h.0,
      h.1,
      (
        h.2.0,
        (λ by u e. ⊎_elim
            (λ was. h.2.1 by u was)
            (λ (t : view 0 v.seen ≡ u). subst (λ (x : SeatView). (x.seen ≤ n) × (x.raised ≤ n)) t (mine.0, omega arith))
            (at_snoc views (view 0 v.seen) u by e)),
        ⊎_elim (λ e. inl e) (λ x. inr (x.0, x.1, at_longer views (view 0 v.seen ∷ []) x.0 x.1 x.2, x.3)) h.2.2,
      ),
    )
