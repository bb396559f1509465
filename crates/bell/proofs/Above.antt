-- Who waits for more than a number, by the order of those that wait.
use Rattle.std.proofs.Common.{◌≡◌, ℕ, ◌<◌, false, refl, arith}
use Rattle.std.specs.Ordering.{is_gt, nat_cmp, ordering_then}
use Rattle.std.specs.declared.cmp.Ordering.{Ordering}
use Rattle.std.specs.declared.cmp.Ordering.TheVariants.{Less, Equal, Greater}
use Rattle.std.proofs.lemmas.Map.Keys.{le_from_not_gt}
use Rattle.bell.specs.Bell.{by_number, IsAbove}

head_at_most : (a b : Ordering) → is_gt (ordering_then a b) ≡ false → is_gt a ≡ false
head_at_most Less b h = refl
head_at_most Equal b h = refl
head_at_most Greater b h = h

pub above_least : (number : ℕ) (least key : ℕ × ℕ) → number < least.0 → is_gt (by_number least key) ≡ false → IsAbove number key
unfolding IsAbove
above_least number least key above h =
    let at_most = le_from_not_gt least.0 key.0 (head_at_most (nat_cmp least.0 key.0) (nat_cmp least.1 key.1) h) in omega arith
