-- The first place of an id.
use Rattle.std.proofs.Common.{◌≡◌, ℕ, List, [], ◌∷◌, true, false, Some, None, subst}
use Rattle.std.specs.declared.ops.Bound.TheVariants.{Included, Unbounded}
use Rattle.std.specs.Ordering.{is_gt, nat_cmp, ordering_then}
use Rattle.std.specs.Cmp.Lexicographic.{slice_cmp}
use Rattle.std.specs.BTreeSet.{BTreeSet, contains, IsKeyRangeOf}
use Rattle.std.proofs.lemmas.Bool.{false_from_ne_true}
use Rattle.std.proofs.lemmas.Cmp.{nat_list_cmp_total, tied_itself}
use Rattle.std.proofs.lemmas.Map.Keys.{le_from_not_gt}
use Rattle.std.proofs.lemmas.Map.Lookups.{exact_bytes}
use Rattle.async_core.specs.Ids.{by_id, is_named, IsFirstPlace}
use Rattle.async_core.proofs.Firsts.{tied, head_at_most, zero_at_most, none_from, found_from, least_from}

-- each place of an id comes from its first possible one on
from_zero : (id : List ℕ) (place : ℕ) → is_gt (by_id (id, 0) (id, place)) ≡ false
from_zero id place = rw (tied_itself nat_list_cmp_total id) (zero_at_most place)

module _ (ids : BTreeSet (List ℕ × ℕ)) (id : List ℕ) (r : List (List ℕ × ℕ)) (range : IsKeyRangeOf by_id (Included (id, 0)) Unbounded ids r) where
  pub no_place : r ≡ [] → IsFirstPlace ids id None
  no_place is = λ place. none_from by_id (id, 0) ids r range is (id, place) (from_zero id place)

  pub first_place : (found : List ℕ × ℕ) (t : List (List ℕ × ℕ)) → r ≡ found ∷ t → found.0 ≡ id → IsFirstPlace ids id (Some found.1)
  first_place found t is same =
      let there = found_from by_id (id, 0) ids found r t range is in (
        subst (λ i. contains by_id ids (i, found.1) ≡ true) same there.1,
        λ place named.
            let least : is_gt (by_id (found.0, found.1) (id, place)) ≡ false = least_from by_id (id, 0) ids found r t range is (id, place) (from_zero id place) named in
            let after : is_gt (by_id (id, found.1) (id, place)) ≡ false = subst (λ i. is_gt (by_id (i, found.1) (id, place)) ≡ false) same least in
            le_from_not_gt found.1 place (subst (λ o. is_gt (ordering_then o (nat_cmp found.1 place)) ≡ false) (tied_itself nat_list_cmp_total id) after),
      )

  pub other_place : (found : List ℕ × ℕ) (t : List (List ℕ × ℕ)) → r ≡ found ∷ t → (found.0 ≡ id → ⊥) → IsFirstPlace ids id None
  other_place found t is apart = λ place.
      false_from_ne_true (is_named ids id place) (λ named.
      let there = found_from by_id (id, 0) ids found r t range is in
      let least : is_gt (by_id (found.0, found.1) (id, place)) ≡ false = least_from by_id (id, 0) ids found r t range is (id, place) (from_zero id place) named in
      let above = head_at_most (slice_cmp nat_cmp id found.0) (nat_cmp 0 found.1) there.0 in
      let below = head_at_most (slice_cmp nat_cmp found.0 id) (nat_cmp found.1 place) least in
      apart (exact_bytes found.0 id (tied nat_list_cmp_total found.0 id below above)))
