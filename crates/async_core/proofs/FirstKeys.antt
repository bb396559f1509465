-- The first key of an index.
use Rattle.std.proofs.Common.{◌≡◌, ℕ, ◌≤◌, ◌<◌, List, [], ◌∷◌, true, false, Some, None, refl, subst, arith, inl, inr}
use Rattle.std.specs.declared.cmp.Ordering.{Ordering}
use Rattle.std.specs.declared.cmp.Ordering.TheVariants.{Less, Equal, Greater}
use Rattle.std.specs.declared.ops.Bound.TheVariants.{Included, Unbounded}
use Rattle.std.specs.Ordering.{is_gt, nat_cmp, ordering_then}
use Rattle.std.specs.BTreeSet.{BTreeSet, contains, IsKeyRangeOf}
use Rattle.std.proofs.lemmas.Bool.{true≢false, false_from_ne_true}
use Rattle.std.proofs.lemmas.Bool.Decides.{nat_tests}
use Rattle.std.proofs.lemmas.Map.Keys.{le_from_not_gt}
use Rattle.async_core.specs.declared.keys.Index.{Index}
use Rattle.async_core.specs.Keys.{Key, index_rank, by_key, IsAtMost, IsFirstKey}
use Rattle.async_core.proofs.Firsts.{at_most, head_at_most, none_from, found_from, least_from}

-- one key is at most another: by rank, then by the numbers, then by place
ordered_two : (a b : Ordering) → is_gt a ≡ false → (a ≡ Equal → is_gt b ≡ false) → is_gt (ordering_then a b) ≡ false
ordered_two Less b h k = refl
ordered_two Equal b h k = k refl
ordered_two Greater b h k = h

pub equal_from : (m n : ℕ) → m ≡ n → nat_cmp m n ≡ Equal
equal_from m n is = grind (arith, nat_tests)

less_from : (m n : ℕ) → m < n → nat_cmp m n ≡ Less
less_from m n lt = grind (arith, nat_tests)

same_from : (m n : ℕ) → nat_cmp m n ≡ Equal → m ≡ n
same_from m n is = grind (arith, nat_tests)

-- from these two numbers on, in one index
pub from_low : (rank : ℕ) (low : ℕ × ℕ) (a b q : ℕ) → IsAtMost low (a, b) → is_gt (by_key (rank, low.0, low.1, 0) (rank, a, b, q)) ≡ false
from_low rank low a b q (inl lt) = rw (equal_from rank rank refl, less_from low.0 a lt) refl
from_low rank low a b q (inr same) =
    rw (equal_from rank rank refl, equal_from low.0 a same.0) (ordered_two (nat_cmp low.1 b) (nat_cmp 0 q) (at_most low.1 b same.1) (λ _. at_most 0 q (omega arith)))

second_at_most : (a b : Ordering) → a ≡ Equal → is_gt (ordering_then a b) ≡ false → is_gt b ≡ false
second_at_most a b is h = subst (λ o. is_gt (ordering_then o b) ≡ false) is h

numbers_at_most : (a b x y p q : ℕ) → is_gt (ordering_then (ordering_then (nat_cmp a x) (nat_cmp b y)) (nat_cmp p q)) ≡ false → IsAtMost (a, b) (x, y)
numbers_at_most a b x y p q h = by_first (nat_cmp a x) refl (head_at_most (ordering_then (nat_cmp a x) (nat_cmp b y)) (nat_cmp p q) h)
  where
    by_first : (o : Ordering) → nat_cmp a x ≡ o → is_gt (ordering_then (nat_cmp a x) (nat_cmp b y)) ≡ false → IsAtMost (a, b) (x, y)
    by_first Less is k = inl (grind (arith, nat_tests))
    by_first Equal is k = inr (same_from a x is, le_from_not_gt b y (second_at_most (nat_cmp a x) (nat_cmp b y) is k))
    by_first Greater is k = absurd (true≢false (subst (λ o. is_gt (ordering_then o (nat_cmp b y)) ≡ false) is k))

-- in one index, by the numbers
in_index : (rank a b p x y q : ℕ) → is_gt (by_key (rank, a, b, p) (rank, x, y, q)) ≡ false → IsAtMost (a, b) (x, y)
in_index rank a b p x y q h =
    numbers_at_most a b x y p q (subst (λ o. is_gt (ordering_then (ordering_then (ordering_then o (nat_cmp a x)) (nat_cmp b y)) (nat_cmp p q)) ≡ false) (equal_from rank rank refl) h)

rank_at_most : (x y : Key) → is_gt (by_key x y) ≡ false → x.0 ≤ y.0
rank_at_most x y h =
    le_from_not_gt x.0 y.0 (head_at_most (nat_cmp x.0 y.0) (nat_cmp x.1 y.1) (head_at_most (ordering_then (nat_cmp x.0 y.0) (nat_cmp x.1 y.1)) (nat_cmp x.2 y.2) (head_at_most (ordering_then (ordering_then (nat_cmp x.0 y.0) (nat_cmp x.1 y.1)) (nat_cmp x.2 y.2)) (nat_cmp x.3 y.3) h)))

module _ (s : BTreeSet Key) (i : Index) (low : ℕ × ℕ) (r : List Key) (range : IsKeyRangeOf by_key (Included (index_rank i, low.0, low.1, 0)) Unbounded s r) where
  bound : Key
  bound = (index_rank i, low.0, low.1, 0)

  pub no_key : r ≡ [] → IsFirstKey s i low None
  no_key is = λ a b q from. none_from by_key (index_rank i, low.0, low.1, 0) s r range is (index_rank i, a, b, q) (from_low (index_rank i) low a b q from)

  pub found_key : (k : Key) (t : List Key) → r ≡ k ∷ t → k.0 ≡ index_rank i → IsFirstKey s i low (Some (k.1, k.2, k.3))
  found_key k t is same =
      let there = found_from by_key (index_rank i, low.0, low.1, 0) s k r t range is in (
        subst (λ n. contains by_key s (n, k.1, k.2, k.3) ≡ true) same there.1,
        in_index (index_rank i) low.0 low.1 0 k.1 k.2 k.3 (subst (λ n. is_gt (by_key (index_rank i, low.0, low.1, 0) (n, k.1, k.2, k.3)) ≡ false) same there.0),
        λ a b q from has.
            let least : is_gt (by_key (k.0, k.1, k.2, k.3) (index_rank i, a, b, q)) ≡ false = least_from by_key (index_rank i, low.0, low.1, 0) s k r t range is (index_rank i, a, b, q) (from_low (index_rank i) low a b q from) has in
            in_index (index_rank i) k.1 k.2 k.3 a b q (subst (λ n. is_gt (by_key (n, k.1, k.2, k.3) (index_rank i, a, b, q)) ≡ false) same least),
      )

  pub other_key : (k : Key) (t : List Key) → r ≡ k ∷ t → (k.0 ≡ index_rank i → ⊥) → IsFirstKey s i low None
  other_key k t is apart = λ a b q from.
      false_from_ne_true (contains by_key s (index_rank i, a, b, q)) (λ has.
      let there = found_from by_key (index_rank i, low.0, low.1, 0) s k r t range is in
      let above = rank_at_most (index_rank i, low.0, low.1, 0) k there.0 in
      let below = rank_at_most k (index_rank i, a, b, q) (least_from by_key (index_rank i, low.0, low.1, 0) s k r t range is (index_rank i, a, b, q) (from_low (index_rank i) low a b q from) has) in
      apart (omega (arith, above, below)))
