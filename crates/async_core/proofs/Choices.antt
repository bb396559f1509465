-- The least of some rows, when one more comes.
use Rattle.std.proofs.Common.{◌≡◌, ℕ, ◌<◌, ◌≤◌, List, [], ◌∷◌, ◌++◌, true, false, ◌&&◌, refl, sym, ◌∙◌, arith, Option, Some, None, All, Contains, ◌⊎◌, inl, inr, subst, nat_lt, ◌==◌}
use Rattle.std.specs.Prelude.{option_map, is_some, nat_le}
use Rattle.std.proofs.lemmas.Bool.{ltb-true, ltb-false, eqb-true, eqb-false, or_cases, or_parts, and_parts, and_cases, cases_lt}
use Rattle.std.proofs.lemmas.List.Elements.{All-push, Contains-append_left, Contains-append_right}
use Rattle.invoke_records.specs.declared.row.EventRow.{EventRow}
use Rattle.async_core.specs.declared.choice.Order.{Order}
use Rattle.async_core.specs.declared.choice.Move.{Move}
use Rattle.retry_rules.specs.declared.settings.Settings.{Settings}
use Rattle.async_core.specs.Rules.{running_at, too_old_at}
use Rattle.async_core.specs.Choice.{rank, goes_before, NotBefore, IsLeast, IsChosen, IsNextAt, moving, move_at, move_by}

before_parts : (k j : ℕ × ℕ) → goes_before k j ≡ true → (k.0 < j.0) ⊎ ((k.0 ≡ j.0) × (k.1 < j.1))
before_parts k j h =
    elim (or_cases (nat_lt k.0 j.0) ((k.0 == j.0) && nat_lt k.1 j.1) h) [
      | inl a ↦ inl (ltb-true k.0 j.0 a)
      | inr b ↦ let both = and_parts (k.0 == j.0) (nat_lt k.1 j.1) b in inr (eqb-true k.0 j.0 both.0, ltb-true k.1 j.1 both.1)
    ]

apart_less : (a b : ℕ) → a ≤ b → (a ≡ b → ⊥) → a < b
apart_less a b le apart = elim (cases_lt a b) [ inl lt ↦ lt | inr ge ↦ absurd (apart (omega arith)) ]

after_parts : (k j : ℕ × ℕ) → goes_before k j ≡ false → (j.0 < k.0) ⊎ ((j.0 ≡ k.0) × (j.1 ≤ k.1))
after_parts k j h =
    let both = or_parts (nat_lt k.0 j.0) ((k.0 == j.0) && nat_lt k.1 j.1) h in
    let le : j.0 ≤ k.0 = ltb-false k.0 j.0 both.0 in
    elim (and_cases (k.0 == j.0) (nat_lt k.1 j.1) both.1) [
      | inl a ↦ let apart = eqb-false k.0 j.0 a in inl (apart_less j.0 k.0 le (λ e. apart (sym e)))
      | inr b ↦ let low : j.1 ≤ k.1 = ltb-false k.1 j.1 b in elim (cases_lt j.0 k.0) [ inl lt ↦ inl lt | inr ge ↦ inr (omega arith, low) ]
    ]

weaker : (k j : ℕ × ℕ) → (k.0 < j.0) ⊎ ((k.0 ≡ j.0) × (k.1 < j.1)) → (o : Option (ℕ × ℕ)) → NotBefore j o → NotBefore k o
weaker k j before None h = tt
weaker k j (inl lt) (Some x) (inl less) = inl (omega arith)
weaker k j (inl lt) (Some x) (inr same) = inl (omega arith)
weaker k j (inr le) (Some x) (inl less) = inl (omega arith)
weaker k j (inr le) (Some x) (inr same) = inr (omega arith, omega arith)

from_none : (k : ℕ × ℕ) (o : Option (ℕ × ℕ)) → o ≡ None → NotBefore k o
from_none k o h = rw h tt

itself : (k : ℕ × ℕ) (o : Option (ℕ × ℕ)) → o ≡ Some k → NotBefore k o
itself k o h = rw h (inr (refl, omega arith))

last_one : (rows : List EventRow) (row : EventRow) → Contains (rows ++ row ∷ []) row
last_one rows row = Contains-append_right rows (row ∷ []) row (0, omega arith, refl)

module _ (order : Order) (rows : List EventRow) (row : EventRow) where
  pub chosen_unranked : (o : Option EventRow) → rank order row ≡ None → IsChosen order rows o → IsChosen order (rows ++ row ∷ []) o
  chosen_unranked None none all = All-push (λ r. rank order r ≡ None) rows row all none
  chosen_unranked (Some first) none h = record {
    is_there = Contains-append_left rows (row ∷ []) first h.is_there;
    at = h.at;
    ranked = h.ranked;
    least = All-push (λ r. NotBefore h.at (rank order r)) rows row h.least (from_none h.at (rank order row) none);
  }

  pub chosen_first : (k : ℕ × ℕ) → Some k ≡ rank order row → All (λ r. rank order r ≡ None) rows → IsLeast order (rows ++ row ∷ []) row
  chosen_first k is all = record {
    is_there = last_one rows row;
    at = k;
    ranked = sym is;
    least = All-push (λ r. NotBefore k (rank order r)) rows row (λ i d lt. from_none k _ (all i d lt)) (itself k (rank order row) (sym is));
  }

  pub chosen_before : (first : EventRow) (k j : ℕ × ℕ) → Some k ≡ rank order row → Some j ≡ rank order first → goes_before k j ≡ true → IsLeast order rows first → IsLeast order (rows ++ row ∷ []) row
  chosen_before first k j is was before h =
      let same : Some j ≡ Some h.at = was ∙ h.ranked in
      let at_is : h.at ≡ j = cc in
      let old : All (λ r. NotBefore j (rank order r)) rows = subst (λ a. All (λ r. NotBefore a (rank order r)) rows) at_is h.least in
      record {
        is_there = last_one rows row;
        at = k;
        ranked = sym is;
        least = All-push (λ r. NotBefore k (rank order r)) rows row (λ i d lt. weaker k j (before_parts k j before) _ (old i d lt)) (itself k (rank order row) (sym is));
      }

  pub chosen_after : (first : EventRow) (k j : ℕ × ℕ) → Some k ≡ rank order row → Some j ≡ rank order first → goes_before k j ≡ false → IsLeast order rows first → IsLeast order (rows ++ row ∷ []) first
  chosen_after first k j is was after h =
      let same : Some j ≡ Some h.at = was ∙ h.ranked in
      let at_is : h.at ≡ j = cc in
      let old : All (λ r. NotBefore j (rank order r)) rows = subst (λ a. All (λ r. NotBefore a (rank order r)) rows) at_is h.least in
      record {
        is_there = Contains-append_left rows (row ∷ []) first h.is_there;
        at = j;
        ranked = sym was;
        least = All-push (λ r. NotBefore j (rank order r)) rows row old (rw (← is) (after_parts k j after));
      }

-- ## Moves

same_presence : {A B C : Type 0} (f : A → B) (g : A → C) (at : C) (o : Option A) → None ≡ option_map f o → option_map g o ≡ Some at → ⊥
same_presence f g at None none some = cc
same_presence f g at (Some x) none some = cc

-- the row of least rank has a move
pub next_in : (s : Settings) (rows : List EventRow) (now : ℕ) (ready : Option ℕ) (row : EventRow) (result : Option Move) → result ≡ move_at s rows now ready row → IsLeast (moving s rows now (is_some ready)) rows row → IsNextAt s rows now ready result
next_in s rows now ready row (Some move) is least = (row, is, least)
next_in s rows now ready row None is least = absurd (same_presence _ _ least.at (move_by (nat_le s.concurrency (running_at rows)) (is_some ready) (too_old_at row) now row.standing) is least.ranked)
