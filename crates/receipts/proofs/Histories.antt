-- A mark at most comes to the list of all and to those of its desk.
use Rattle.std.proofs.Common.{◌≡◌, ◌≢◌, ◌⊎◌, ⊎_elim, inl, inr, ℕ, zero, suc, List, [], ◌∷◌, ◌++◌, true, false, Option, Some, None, slice_get, slice_set, refl, ap, sym, ◌∙◌, arith}
use Rattle.std.proofs.lemmas.Bool.Decides.{nat_tests}
use Rattle.std.proofs.lemmas.List.{append-nil}
use Rattle.std.proofs.lemmas.List.Elements.{filter-append}
use Rattle.hall_plans.specs.declared.issued.Issued.{Issued}
use Rattle.receipts.specs.declared.mark.Mark.{Mark}
use Rattle.receipts.specs.Marks.{mark_of, marks_by, is_of, history_of_desk, KeepsHistories, AreHistories}

module _ (desk : ℕ) where
  of_its_own : (issued : Option Issued) → history_of_desk desk (marks_by desk issued) ≡ marks_by desk issued
  of_its_own None = refl
  of_its_own (Some issued) =
      let test : is_of desk (mark_of desk issued) ≡ true = grind (arith, nat_tests) in
      search test

  of_no_other : (other : ℕ) → other ≢ desk → (issued : Option Issued) → history_of_desk other (marks_by desk issued) ≡ []
  of_no_other other apart None = refl
  of_no_other other apart (Some issued) =
      let test : is_of other (mark_of desk issued) ≡ false = grind (arith, nat_tests) in
      search test

  pub histories_by : (marks own later later_own : List Mark) (issued : Option Issued) → later ≡ marks ++ marks_by desk issued
      → later_own ≡ own ++ marks_by desk issued → KeepsHistories desk marks own later later_own
  histories_by marks own later later_own issued added added_own =
      let more : (n : ℕ) → history_of_desk n later ≡ history_of_desk n marks ++ history_of_desk n (marks_by desk issued) =
      λ n. ap (history_of_desk n) added ∙ filter-append (is_of n) marks (marks_by desk issued) in (
        (λ was. added_own ∙ ap (λ l. l ++ marks_by desk issued) was ∙ ap (λ l. history_of_desk desk marks ++ l) (sym (of_its_own issued)) ∙ sym (more desk)),
        (λ other apart. more other ∙ ap (λ l. history_of_desk other marks ++ l) (of_no_other other apart issued) ∙ append-nil (history_of_desk other marks)),
      )

-- what changes neither
module _ (desk : ℕ) (marks own later later_own : List Mark) where
  pub histories_stay : later ≡ marks → later_own ≡ own → KeepsHistories desk marks own later later_own
  histories_stay same same_own = ((λ was. same_own ∙ was ∙ ap (history_of_desk desk) (sym same)), (λ other apart. ap (history_of_desk other) same))

-- ## A row of desks of which one calls

-- what is at a place of a list in which one element was set
at_place : {X : Type 0} (xs : List X) (i j : ℕ) (x y : X) → slice_get (slice_set xs i x) j ≡ Some y
    → ((j ≡ i) × (y ≡ x)) ⊎ ((j ≢ i) × (slice_get xs j ≡ Some y))
at_place [] i j x y is = absurd (cc)
at_place (z ∷ xs) zero zero x y is = inl (refl, cc)
at_place (z ∷ xs) zero (suc j) x y is = inr ((λ e. absurd (omega (arith, e))), is)
at_place (z ∷ xs) (suc i) zero x y is = inr ((λ e. absurd (omega (arith, e))), is)
at_place (z ∷ xs) (suc i) (suc j) x y is =
    ⊎_elim (λ at. inl (ap suc at.0, at.1)) (λ other. inr ((λ e. other.0 (omega (arith, e))), other.1)) (at_place xs i j x y is)

module _ {X : Type 0} (number : X → ℕ) (own : X → List Mark) (marks later : List Mark) (desks : List X) (i : ℕ) (old new : X) where
  pub histories_after : AreHistories number own marks desks → slice_get desks i ≡ Some old → number new ≡ number old
      → KeepsHistories (number old) marks (own old) later (own new) → AreHistories number own later (slice_set desks i new)
  histories_after were at same keeps place desk is =
      let mine = were i old at in
      let was : own old ≡ history_of_desk (number old) marks = mine.1 ∙ ap (λ n. history_of_desk n marks) (sym mine.0) in
      ⊎_elim
      (λ (t : (place ≡ i) × (desk ≡ new)).
      let numbered : number old ≡ place = mine.0 ∙ sym t.0 in (ap number t.1 ∙ same ∙ numbered, ap own t.1 ∙ keeps.0 was ∙ ap (λ n. history_of_desk n later) numbered))
      (λ (t : (place ≢ i) × (slice_get desks place ≡ Some desk)).
      let theirs = were place desk t.1 in (theirs.0, theirs.1 ∙ sym (keeps.1 place (λ e. t.0 (e ∙ mine.0)))))
      (at_place desks i place new desk is)
