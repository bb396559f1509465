-- Laws: an event that was accepted is in the table of each later history, with its payload, or was collected since.
use Rattle.std.proofs.Common.{◌≡◌, ℕ, ◌≤◌, List, [], ◌∷◌, ◌++◌, length, take, drop, filter, Bool, true, false, ◌||◌, cond, refl, sym, subst, ap, ◌∙◌, arith, Some, ◌⊎◌, inl, inr}
use Rattle.std.specs.List.{list_any}
use Rattle.std.proofs.lemmas.Bool.{or_parts}
use Rattle.std.proofs.lemmas.List.{append_assoc, append-nil, take-append-le, take-append-drop, length-take, length-append}
use Rattle.std.proofs.lemmas.List.Folds.{list_any-append}
use Rattle.std.proofs.lemmas.List.Elements.{filter-append}
use Rattle.retry_rules.specs.declared.settings.Settings.{Settings}
use Rattle.invoke_records.specs.declared.command.Command.{Command}
use Rattle.invoke_records.specs.declared.command.Kind.TheVariants.{Accept}
use Rattle.async_core.specs.Lives.{names, collects, life, payload_of}
use Rattle.async_core.specs.History.{table_of, IsLegal}
use Rattle.async_core.specs.Rules.{row_at}
use Rattle.async_core.specs.Readers.{where_held, payload_at}
use Rattle.async_core.specs.laws.Lives.{life-snoc}
use Rattle.async_core.specs.laws.Held.{by_last, bytes_eq-refl, named_by, is_nil, nil_before, IsLegal-take, IsLegal-last}
use Rattle.async_core.specs.laws.Tables.{payload-by_history}
use Rattle.promises.specs.Promises.{GoesOn}

-- ## Fronts

pub take_take : {A : Type 0} (p q : ℕ) (xs : List A) → p ≤ q → p ≤ length xs → take p (take q xs) ≡ take p xs
take_take p q xs le most =
    sym (take-append-le p (take q xs) (drop q xs) (omega (arith, length-take q xs))) ∙ ap (take p) (take-append-drop q xs)

pub goes_on_itself : (s : Settings) (point : ℕ) (history : List Command) → IsLegal s history → point ≤ length history → GoesOn s point history history
goes_on_itself s point history legal le = record { legal = legal; reaches = le; begins = refl }

pub goes_on_longer : (s : Settings) (point : ℕ) (history later more : List Command) → IsLegal s (later ++ more) → GoesOn s point history later → GoesOn s point history (later ++ more)
goes_on_longer s point history later more legal goes = record {
  legal = legal;
  reaches = omega (arith, goes.reaches, length-append later more);
  begins = take-append-le point later more goes.reaches ∙ goes.begins;
}

pub goes_on_stopped : (s : Settings) (point size : ℕ) (history later : List Command) → point ≤ size → GoesOn s point history later → GoesOn s point history (take size later)
goes_on_stopped s point size history later le goes = record {
  legal = IsLegal-take s later size goes.legal;
  reaches = omega (arith, goes.reaches, le, length-take size later);
  begins = take_take point size later le goes.reaches ∙ goes.begins;
}

-- a history is its front and what came since
pub since_front : (s : Settings) (point : ℕ) (history later : List Command) → GoesOn s point history later → take point history ++ drop point later ≡ later
since_front s point history later goes = ap (λ l. l ++ drop point later) (sym goes.begins) ∙ take-append-drop point later

-- ## Lives

uncollected : (collecting : Bool) (life front more : List Command) (add : List Command) → collecting ≡ false → life ≡ front ++ more
    → cond collecting [] (life ++ add) ≡ front ++ (more ++ add)
uncollected collecting life front more add none is = rw (none, is) (append_assoc front more add)

-- the life of an event that is not collected goes on
pub life_goes_on : (id : List ℕ) (front since : List Command) → list_any (collects id) since ≡ false
    → life id (front ++ since) ≡ life id front ++ filter (names id) since
life_goes_on id front since = by_last (λ since. list_any (collects id) since ≡ false → life id (front ++ since) ≡ life id front ++ filter (names id) since)
    (λ none. ap (life id) (append-nil front) ∙ sym (append-nil (life id front)))
    (λ since c before none.
    let parts = or_parts (list_any (collects id) since) (collects id c || false) (sym (list_any-append (collects id) since (c ∷ [])) ∙ none) in
    let last = or_parts (collects id c) false parts.1 in
    ap (life id) (sym (append_assoc front since (c ∷ [])))
    ∙ life-snoc id (front ++ since) c
    ∙ uncollected (collects id c) (life id (front ++ since)) (life id front) (filter (names id) since) (cond (names id c) (c ∷ []) []) last.0 (before parts.0)
    ∙ ap (λ l. life id front ++ l) (sym (filter-append (names id) since (c ∷ []))))
    since

-- ## Acceptance

abbrev acceptance : List ℕ → ℕ → List ℕ → Command
acceptance id time payload = record { kind = Accept; id = id; environment = 0; time = time; bytes = payload }

nil_is : (l : List Command) → is_nil l ≡ true → l ≡ []
nil_is [] h = refl
nil_is (c ∷ l) h = cc

-- a life begins with its acceptance
begins : (s : Settings) (before : List Command) (id payload : List ℕ) (time : ℕ) → IsLegal s (before ++ acceptance id time payload ∷ [])
    → life id (before ++ acceptance id time payload ∷ []) ≡ acceptance id time payload ∷ []
begins s before id payload time legal =
    let c = acceptance id time payload in
    let named : names id c ≡ true = named_by id c refl (bytes_eq-refl id) in
    let none : life id before ≡ [] = nil_is (life id before) (nil_before s before c (IsLegal-last s before c legal) id named) in
    life-snoc id before c ∙ ap (λ b. life id before ++ cond b (c ∷ []) []) named ∙ ap (λ l. l ++ c ∷ []) none

held_so : (h : List Command) (id payload : List ℕ) (time : ℕ) (more : List Command) → life id h ≡ acceptance id time payload ∷ more
    → where_held (life id h) (payload_of (life id h)) ≡ Some payload
held_so h id payload time more is = ap (λ l. where_held l (payload_of l)) is

module _ (s : Settings) (point : ℕ) (history later before : List Command) (id payload : List ℕ) (time : ℕ)
    (ends : take point history ≡ before ++ acceptance id time payload ∷ []) (goes : GoesOn s point history later) where
  front_legal : IsLegal s (before ++ acceptance id time payload ∷ [])
  front_legal = subst (λ l. IsLegal s l) (goes.begins ∙ ends) (IsLegal-take s later point goes.legal)

  life_is : list_any (collects id) (drop point later) ≡ false → life id later ≡ acceptance id time payload ∷ filter (names id) (drop point later)
  life_is none =
      ap (life id) (sym (since_front s point history later goes))
      ∙ life_goes_on id (take point history) (drop point later) none
      ∙ ap (λ l. l ++ filter (names id) (drop point later)) (ap (life id) ends ∙ begins s before id payload time front_legal)

  row_is : list_any (collects id) (drop point later) ≡ false → payload_at (row_at (table_of s later) id) ≡ Some payload
  row_is none =
      payload-by_history s (table_of s later) later id goes.legal refl
      ∙ held_so later id payload time (filter (names id) (drop point later)) (life_is none)

  -- the table has the event with its payload, or a Collect of it came since
  pub kept_or_collected : (payload_at (row_at (table_of s later) id) ≡ Some payload) ⊎ (list_any (collects id) (drop point later) ≡ true)
  kept_or_collected = by (list_any (collects id) (drop point later)) refl
    where
      by : (b : Bool) → list_any (collects id) (drop point later) ≡ b → (payload_at (row_at (table_of s later) id) ≡ Some payload) ⊎ (list_any (collects id) (drop point later) ≡ true)
      by true is = inr is
      by false is = inl (row_is is)
