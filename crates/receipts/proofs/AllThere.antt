-- Desks that are all there, and their marks.
use Rattle.std.proofs.Common.{◌≡◌, ℕ, ◌+◌, ◌<◌, ◌≤◌, ◌==◌, List, drop, Bool, true, false, None, All, sym, ◌∙◌, arith, subst, ◌⊎◌, inl, inr}
use Rattle.std.specs.Prelude.{◌↔◌, count_by}
use Rattle.std.proofs.lemmas.Bool.{true≢false, cases_lt}
use Rattle.retry_rules.specs.Settings.{bad_field}
use Rattle.retry_rules.specs.declared.settings.Settings.{Settings}
use Rattle.async_core.specs.laws.Shapes.{limits}
use Rattle.receipts.specs.declared.mark.Mark.{Mark}
use Rattle.receipts.specs.Marks.{history_of_desk}
use Rattle.receipts.specs.declared.error.FinishError.{FinishError}
use Rattle.receipts.specs.declared.error.FinishError.TheVariants.{Mismatch, NotJoined}
use Rattle.receipts.specs.Desks.{desk_count, IsEachOnce, HaveEachOnce, AreAll, IsReason, IsNotMismatch}

-- ## Numbers

-- fewer than the numbers of slots tell apart
pub few_desks : (s : Settings) (count : ℕ) → bad_field s ≡ None → count ≡ desk_count s → count ≤ 32
few_desks s count good is = let most = (limits s good).environments in omega (arith, is, most)

module _ (P : ℕ → Type 0) (k : ℕ) (before : (n : ℕ) → n < k → P n) (here : P k) (n : ℕ) (within : n < k + 1) where
  below_case : (n < k) ⊎ (k ≤ n) → P n
  below_case (inl less) = before n less
  below_case (inr more) = let is : k ≡ n = omega (arith, more, within) in subst P is here

  below_more : P n
  below_more = below_case (cases_lt n k)

module _ {X : Type 0} (number : X → ℕ) (desks : List X) where
  pub each_more : (k : ℕ) → IsEachOnce number k desks → count_by (λ desk. number desk == k) desks ≡ 1 → IsEachOnce number (k + 1) desks
  each_more k before here = below_more (λ n. count_by (λ desk. number desk == n) desks ≡ 1) k before here

-- ## The marks of one desk

module _ (desk : ℕ) (own all : List Mark) where
  -- what is left of a desk's marks is what is left of its history
  abbrev pub IsLeft : List Mark → ℕ → Type 0
  IsLeft rest i = (own ≡ history_of_desk desk all) ↔ (rest ≡ history_of_desk desk (drop i all))

module _ {X : Type 0} (number : X → ℕ) (own : X → List Mark) (count parts : ℕ) (marks : List Mark) (desks : List X)
    (counted : count ≡ parts) (a : Bool) (once : (a ≡ true) ↔ HaveEachOnce number count desks) where
  same_once : HaveEachOnce number count desks → HaveEachOnce number parts desks
  same_once all = subst (λ n. HaveEachOnce number n desks) counted all

  same_count : HaveEachOnce number parts desks → HaveEachOnce number count desks
  same_count all = subst (λ n. HaveEachOnce number n desks) (sym counted) all

  pub all_there : a ≡ true → (b : Bool) → ((b ≡ true) ↔ All (λ desk. own desk ≡ history_of_desk (number desk) marks) desks)
      → (b ≡ true) ↔ AreAll number own parts marks desks
  all_there is b own_histories =
      (λ t. record { once = same_once (once.0 is); own_history = own_histories.0 t }, λ all. own_histories.1 all.own_history)

  pub not_there : a ≡ false → (a ≡ true) ↔ AreAll number own parts marks desks
  not_there is = (λ t. absurd (true≢false (sym t ∙ is)), λ all. once.1 (same_count all.once))

-- where all are there, the halves were not joined
pub reason_where_all : (all : Type 0) → all → (why : FinishError) → IsNotMismatch why → IsReason all why
reason_where_all all there Mismatch never = absurd never
reason_where_all all there (NotJoined why) never = there
