-- A sorted list of pairs is the one that the definitions have: the same pairs are sorted in one way alone.
use Rattle.std.proofs.Common.{◌≡◌, ◌+◌, ◌<◌, ℕ, suc, Bool, true, false, cond, List, [], ◌∷◌, refl, ap, sym, ◌∙◌, subst, arith}
use Rattle.std.specs.List.{sum_by}
use Rattle.std.specs.List.Sorted.{IsPermutation, IsSorted}
use Rattle.std.specs.declared.cmp.Ordering.{Ordering}
use Rattle.std.specs.declared.cmp.Ordering.TheVariants.{Less, Equal, Greater}
use Rattle.std.specs.Ordering.{ordering_then, ordering_reverse, nat_cmp, is_gt, is_lt}
use Rattle.std.specs.Cmp.{IsTotalOrder}
use Rattle.std.specs.Cmp.Lexicographic.{slice_cmp}
use Rattle.std.specs.FinMap.{slice_cmp-IsAntisymmetric, nat_cmp-IsAntisymmetric}
use Rattle.std.proofs.lemmas.Cmp.{upto, then_total, on_total, nat_list_cmp_total, tied_itself}
use Rattle.std.proofs.lemmas.List.Sums.{sum_by-cons}
use Rattle.std.proofs.lemmas.List.Sorted.{sum_by-IsPermutation, IsPermutation-map}
use Rattle.signed_requests.specs.Canonical.{Pair, pair_cmp, insert_pair, in_order}
use Rattle.signed_requests.specs.declared.query.Pair as code
use Rattle.signed_requests.specs.Pairs.{pair_of, pairs_of}

-- ## The order

-- as the code compares
abbrev pub code_cmp : code.Pair → code.Pair → Ordering
code_cmp p q = ordering_then (slice_cmp nat_cmp p.name.items q.name.items) (slice_cmp nat_cmp p.value.items q.value.items)

suc_add : (k : ℕ) → suc k + 1 ≡ suc (k + 1)
suc_add k = omega arith

pub total : IsTotalOrder pair_cmp
total = then_total (on_total (λ (p : Pair). p.0) nat_list_cmp_total) (on_total (λ (p : Pair). p.1) nat_list_cmp_total)

then_equal : (r s : Ordering) → ordering_then r s ≡ Equal → (r ≡ Equal) × (s ≡ Equal)
then_equal Less s e = cc
then_equal Equal s e = (refl, e)
then_equal Greater s e = cc

same : (p q : Pair) → pair_cmp p q ≡ Equal → p ≡ q
same p q e =
    let h = then_equal (slice_cmp nat_cmp p.0 q.0) (slice_cmp nat_cmp p.1 q.1) e in
    let a : p.0 ≡ q.0 = slice_cmp-IsAntisymmetric nat_cmp-IsAntisymmetric p.0 q.0 h.0 in
    let b : p.1 ≡ q.1 = slice_cmp-IsAntisymmetric nat_cmp-IsAntisymmetric p.1 q.1 h.1 in
    ap (λ x. (x, p.1)) a ∙ ap (λ y. (q.0, y)) b

-- p does not come behind q
abbrev Before : Pair → Pair → Type 0
Before p q = is_gt (pair_cmp p q) ≡ false

not_gt : (r : Ordering) → is_lt r ≡ false → is_gt (ordering_reverse r) ≡ false
not_gt Less e = cc
not_gt Equal e = refl
not_gt Greater e = refl

lt_of_gt : (r : Ordering) → is_gt r ≡ true → is_gt (ordering_reverse r) ≡ false
lt_of_gt Less e = cc
lt_of_gt Equal e = cc
lt_of_gt Greater e = refl

turned : (p q : Pair) → is_gt (pair_cmp p q) ≡ true → Before q p
turned p q e = subst (λ r. is_gt r ≡ false) (sym (total.antisymm q p)) (lt_of_gt (pair_cmp p q) e)

-- ## Lists in order

abbrev Ascends : List Pair → Type 0
Ascends [] = Unit {0}
Ascends (p ∷ []) = Unit {0}
Ascends (p ∷ q ∷ qs) = Before p q × Ascends (q ∷ qs)

tail : (p : Pair) (ps : List Pair) → Ascends (p ∷ ps) → Ascends ps
tail p [] h = tt
tail p (q ∷ qs) h = h.1

-- what comes first in an insertion
inserted_head : (p q : Pair) (qs : List Pair) → Before q p → Ascends (q ∷ qs) → Ascends (insert_pair p qs) → Ascends (q ∷ insert_pair p qs)
inserted_head p q [] up h k = (up, tt)
inserted_head p q (r ∷ rs) up h k =
    elim (is_gt (pair_cmp p r)) as (λ b. Ascends (cond b (r ∷ insert_pair p rs) (p ∷ r ∷ rs)) → Ascends (q ∷ cond b (r ∷ insert_pair p rs) (p ∷ r ∷ rs))) [
      | true ↦ λ k. (h.0, k)
      | false ↦ λ k. (up, k)
    ] k

Ascends-insert : (p : Pair) (ps : List Pair) → Ascends ps → Ascends (insert_pair p ps)
Ascends-insert p [] h = tt
Ascends-insert p (q ∷ qs) h =
    elim (is_gt (pair_cmp p q)) as (λ b. is_gt (pair_cmp p q) ≡ b → Ascends (cond b (q ∷ insert_pair p qs) (p ∷ q ∷ qs))) [
      | true ↦ λ e. inserted_head p q qs (turned p q e) h (Ascends-insert p qs (tail q qs h))
      | false ↦ λ e. (e, h)
    ] refl

Ascends-in_order : (ps : List Pair) → Ascends (in_order ps)
Ascends-in_order [] = tt
Ascends-in_order (p ∷ ps) = Ascends-insert p (in_order ps) (Ascends-in_order ps)

-- ## The same pairs, counted by any weights

abbrev SameSums : List Pair → List Pair → Type 0
SameSums ps qs = (f : Pair → ℕ) → sum_by f ps ≡ sum_by f qs

sum-insert : (f : Pair → ℕ) (p : Pair) (ps : List Pair) → sum_by f (insert_pair p ps) ≡ f p + sum_by f ps
sum-insert f p [] = sum_by-cons f p []
sum-insert f p (q ∷ qs) =
    elim (is_gt (pair_cmp p q)) as (λ b. sum_by f (cond b (q ∷ insert_pair p qs) (p ∷ q ∷ qs)) ≡ f p + sum_by f (q ∷ qs)) [
      | true ↦ let h = sum-insert f p qs in let a = sum_by-cons f q (insert_pair p qs) in let b = sum_by-cons f q qs in omega arith
      | false ↦ sum_by-cons f p (q ∷ qs)
    ]

sum-in_order : (f : Pair → ℕ) (ps : List Pair) → sum_by f (in_order ps) ≡ sum_by f ps
sum-in_order f [] = refl
sum-in_order f (p ∷ ps) = sum-insert f p (in_order ps) ∙ ap (λ n. f p + n) (sum-in_order f ps) ∙ sym (sum_by-cons f p ps)

-- 1 for what does not come behind a pair
abbrev up_to : Pair → Pair → ℕ
up_to q p = cond (is_gt (pair_cmp p q)) 0 1

-- nothing of a list in order comes before its head
none_before : (x p : Pair) (ps : List Pair) → is_gt (pair_cmp p x) ≡ true → Ascends (p ∷ ps) → sum_by (up_to x) (p ∷ ps) ≡ 0
none_before x p [] e h = sum_by-cons (up_to x) p [] ∙ ap (λ b. cond b 0 1 + 0) e
none_before x p (q ∷ qs) e h =
    let behind : is_gt (pair_cmp q x) ≡ true =
    elim (is_gt (pair_cmp q x)) as (λ b. is_gt (pair_cmp q x) ≡ b → is_gt (pair_cmp q x) ≡ true) [
      | true ↦ λ k. k
      | false ↦ λ k. absurd (clash e (upto total p q x h.0 k))
    ] refl in
    let first = sum_by-cons (up_to x) p (q ∷ qs) in
    let none : up_to x p ≡ 0 = ap (λ b. cond b 0 1) e in
    let rest = none_before x q qs behind h.1 in
    omega arith
  where
    clash : {b : Bool} → b ≡ true → b ≡ false → ⊥
    clash t f = cc

itself : (p : Pair) (ps : List Pair) → 0 < sum_by (up_to p) (p ∷ ps)
itself p ps =
    let first = sum_by-cons (up_to p) p ps in
    let one : up_to p p ≡ 1 = ap (λ r. cond (is_gt r) 0 1) (tied_itself total p) in
    omega arith

behind : (p q : Pair) → pair_cmp p q ≡ Less → is_gt (pair_cmp q p) ≡ true
behind p q e = ap is_gt (total.antisymm q p ∙ ap ordering_reverse e)

unique : (ps qs : List Pair) → Ascends ps → Ascends qs → SameSums ps qs → ps ≡ qs
unique [] [] h k s = refl
unique [] (q ∷ qs) h k s = let e = s (λ _. 1) in let one = sum_by-cons (λ _. 1) q qs in absurd (omega arith)
unique (p ∷ ps) [] h k s = let e = s (λ _. 1) in let one = sum_by-cons (λ _. 1) p ps in absurd (omega arith)
unique (p ∷ ps) (q ∷ qs) h k s =
    elim (pair_cmp p q) as (λ r. pair_cmp p q ≡ r → p ∷ ps ≡ q ∷ qs) [
      | Less ↦ λ e.
          let zero_sum = none_before p q qs (behind p q e) k in
          let some_sum = itself p ps in
          let both = s (up_to p) in
          absurd (omega arith)
      | Equal ↦ λ e.
          let heads = same p q e in
          let tails : ps ≡ qs = unique ps qs (tail p ps h) (tail q qs k) (λ f. let both = s f in let one = ap f heads in let a = sum_by-cons f p ps in let b = sum_by-cons f q qs in omega arith) in
          cc
      | Greater ↦ λ e.
          let zero_sum = none_before q p ps (ap is_gt e) h in
          let some_sum = itself q qs in
          let both = s (up_to q) in
          absurd (omega arith)
    ] refl

-- the same pairs, ascending, are those in order
pub sorted_once : (ps qs : List Pair) → IsPermutation ps qs → Ascends qs → qs ≡ in_order ps
sorted_once ps qs moved up =
    unique qs (in_order ps) up (Ascends-in_order ps) (λ f. sum_by-IsPermutation f ps qs moved ∙ sym (sum-in_order f ps))

-- ## The pairs of the code

adjacent : (x y : code.Pair) → is_lt (code_cmp y x) ≡ false → Before (pair_of x) (pair_of y)
adjacent x y e =
    subst (λ r. is_gt r ≡ false) (sym (total.antisymm (pair_of x) (pair_of y))) (not_gt (pair_cmp (pair_of y) (pair_of x)) e)

Ascends-sorted : (xs : List code.Pair) → IsSorted code_cmp xs → Ascends (pairs_of xs)
Ascends-sorted [] h = tt
Ascends-sorted (x ∷ []) h = tt
Ascends-sorted (x ∷ y ∷ xs) h = (
  adjacent x y (h 0 x (omega arith) (omega arith)),
  Ascends-sorted (y ∷ xs) (λ k d low high. rw (suc_add k) at (h (suc k) d (omega arith) (omega arith))),
)

-- what is sorted of the code's pairs
pub in_order_once : (xs ys : List code.Pair) → IsPermutation xs ys → IsSorted code_cmp ys → pairs_of ys ≡ in_order (pairs_of xs)
in_order_once xs ys moved sorted =
    sorted_once (pairs_of xs) (pairs_of ys) (IsPermutation-map pair_of xs ys moved) (Ascends-sorted ys sorted)
