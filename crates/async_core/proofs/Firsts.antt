-- The first key of a set from some key on.
use Rattle.std.proofs.Common.{◌≡◌, ℕ, ◌≤◌, List, [], ◌∷◌, true, false, refl, subst, arith}
use Rattle.std.specs.Prelude.{slice_get, IfSome}
use Rattle.std.specs.declared.cmp.Ordering.{Ordering}
use Rattle.std.specs.declared.cmp.Ordering.TheVariants.{Less, Equal, Greater}
use Rattle.std.specs.declared.ops.Bound.TheVariants.{Included, Unbounded}
use Rattle.std.specs.Ordering.{is_gt, nat_cmp, ordering_then, ordering_reverse}
use Rattle.std.specs.Cmp.{IsTotalOrder}
use Rattle.std.specs.BTreeSet.{BTreeSet, contains, IsKeyRangeOf}
use Rattle.std.proofs.lemmas.Bool.{true≢false}
use Rattle.std.proofs.lemmas.Bool.Decides.{nat_tests}

-- ## Orderings

-- where one comparison and the one back are both at most, they tie
both_at_most : (a : Ordering) → is_gt a ≡ false → is_gt (ordering_reverse a) ≡ false → a ≡ Equal
both_at_most Less h k = absurd (true≢false k)
both_at_most Equal h k = refl
both_at_most Greater h k = absurd (true≢false h)

pub tied : {K : Type 0} {R : K → K → Ordering} → IsTotalOrder R → (a b : K) → is_gt (R a b) ≡ false → is_gt (R b a) ≡ false → R a b ≡ Equal
tied {K} {R} o a b h k = both_at_most (R a b) h (subst (λ r. is_gt r ≡ false) (o.antisymm b a) k)

pub head_at_most : (a b : Ordering) → is_gt (ordering_then a b) ≡ false → is_gt a ≡ false
head_at_most Less b h = refl
head_at_most Equal b h = refl
head_at_most Greater b h = h

pub at_most : (m n : ℕ) → m ≤ n → is_gt (nat_cmp m n) ≡ false
at_most m n le = grind (arith, nat_tests)

pub zero_at_most : (n : ℕ) → is_gt (nat_cmp 0 n) ≡ false
zero_at_most n = at_most 0 n (omega arith)

-- ## A range from a key on

module _ {K : Type 0} (R : K → K → Ordering) (low : K) (s : BTreeSet K) where
  -- there is none
  pub none_from : (r : List K) → IsKeyRangeOf R (Included low) Unbounded s r → r ≡ [] → (q : K) → is_gt (R low q) ≡ false → contains R s q ≡ false
  none_from r h is q from = h.5 is q (from, tt)

  -- this is the first one
  pub found_from : (k : K) (r t : List K) → IsKeyRangeOf R (Included low) Unbounded s r → r ≡ k ∷ t → (is_gt (R low k) ≡ false) × (contains R s k ≡ true)
  found_from k r t h is =
      let first : IfSome (slice_get (k ∷ t) 0) (λ x. ((is_gt (R low x) ≡ false) × Unit {0}) × (contains R s x ≡ true)) = subst (λ l. IfSome (slice_get l 0) (λ x. ((is_gt (R low x) ≡ false) × Unit {0}) × (contains R s x ≡ true))) is h.1 in
      (first.0.0, first.1)

  -- and no other one goes before it
  pub least_from : (k : K) (r t : List K) → IsKeyRangeOf R (Included low) Unbounded s r → r ≡ k ∷ t → (q : K) → is_gt (R low q) ≡ false → contains R s q ≡ true → is_gt (R k q) ≡ false
  least_from k r t h is q from there = subst (λ l. IfSome (slice_get l 0) (λ x. is_gt (R x q) ≡ false)) is (h.2 q (from, tt) there)
