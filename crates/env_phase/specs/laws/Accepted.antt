-- Laws: lists of calls of which each was accepted.
use Rattle.std.proofs.Common.{◌≡◌, ℕ, ◌≤◌, List, [], ◌∷◌, ◌++◌, length, refl, sym, subst, ap, ◌∙◌, arith, length-append, Some, None, zero, suc, ◌<◌, take, append_assoc, ◌⊎◌, inl, inr}
use Rattle.std.specs.Prelude.{slice_get}
use Rattle.std.proofs.lemmas.List.{append-nil, take-append-le}
use Rattle.std.proofs.lemmas.Option.{none-some, slice_get_within}
use Rattle.std.proofs.Math.Seq.{take-append_seam}
use Rattle.std.proofs.lemmas.Bool.{cases_lt}
use Rattle.env_phase.specs.declared.call.EnvCall.{EnvCall}
use Rattle.env_phase.specs.Polls.{refusal_of, IsLegal}

snoc_from : (P : List EnvCall → Type 0) → ((calls : List EnvCall) (c : EnvCall) → P calls → P (calls ++ c ∷ [])) → (calls later : List EnvCall) → P calls → P (calls ++ later)
snoc_from P step calls [] p = subst P (sym (append-nil calls)) p
snoc_from P step calls (c ∷ later) p = subst P (append_assoc calls (c ∷ []) later) (snoc_from P step (calls ++ c ∷ []) later (step calls c p))

get_before : {X : Type 0} (xs ys : List X) (n : ℕ) → n < length xs → slice_get (xs ++ ys) n ≡ slice_get xs n
get_before [] ys n lt = absurd (omega arith)
get_before (x ∷ xs) ys zero lt = refl
get_before (x ∷ xs) ys (suc n) lt = get_before xs ys n (omega arith)

get_seam : {X : Type 0} (xs : List X) (y : X) → slice_get (xs ++ y ∷ []) (length xs) ≡ Some y
get_seam [] y = refl
get_seam (x ∷ xs) y = get_seam xs y

pub legal_front : (wanted : ℕ) (calls : List EnvCall) (c : EnvCall) → IsLegal wanted (calls ++ c ∷ []) → IsLegal wanted calls
legal_front wanted calls c legal = record {
  each = λ n d found.
      let lt : n < length calls = slice_get_within calls n d found in
      let front : take n (calls ++ c ∷ []) ≡ take n calls = take-append-le n calls (c ∷ []) (omega arith) in
      subst (λ before. refusal_of wanted before d ≡ None) front (legal.each n d (get_before calls (c ∷ []) n lt ∙ found));
}

pub legal_last : (wanted : ℕ) (calls : List EnvCall) (c : EnvCall) → IsLegal wanted (calls ++ c ∷ []) → refusal_of wanted calls c ≡ None
legal_last wanted calls c legal =
    subst (λ before. refusal_of wanted before c ≡ None) (take-append_seam calls (c ∷ [])) (legal.each (length calls) c (get_seam calls c))

pub legal_nil : (wanted : ℕ) → IsLegal wanted []
legal_nil wanted = record { each = λ n d found. absurd (none-some d found) }

same_call : {X : Type 0} (x y : X) → Some x ≡ Some y → x ≡ y
same_call x y h = cc

more_at : (wanted : ℕ) (calls : List EnvCall) (c : EnvCall) → IsLegal wanted calls → refusal_of wanted calls c ≡ None → (n : ℕ) (d : EnvCall)
    → slice_get (calls ++ c ∷ []) n ≡ Some d → (n < length calls) ⊎ (length calls ≤ n) → refusal_of wanted (take n (calls ++ c ∷ [])) d ≡ None
more_at wanted calls c legal passes n d found (inl lt) =
    let front : take n (calls ++ c ∷ []) ≡ take n calls = take-append-le n calls (c ∷ []) (omega arith) in
    rw front (legal.each n d (sym (get_before calls (c ∷ []) n lt) ∙ found))
more_at wanted calls c legal passes n d found (inr le) =
    let inside : n < length (calls ++ c ∷ []) = slice_get_within (calls ++ c ∷ []) n d found in
    let last : n ≡ length calls = omega (arith, length-append calls (c ∷ [])) in
    let is : c ≡ d = same_call c d (sym (get_seam calls c) ∙ ap (slice_get (calls ++ c ∷ [])) (sym last) ∙ found) in
    rw (last, take-append_seam calls (c ∷ []), ← is) passes

-- a list that was accepted, and a call that is accepted after it
pub legal_more : (wanted : ℕ) (calls : List EnvCall) (c : EnvCall) → IsLegal wanted calls → refusal_of wanted calls c ≡ None → IsLegal wanted (calls ++ c ∷ [])
legal_more wanted calls c legal passes = record {
  each = λ n d found. more_at wanted calls c legal passes n d found (cases_lt n (length calls));
}

-- by the last call of a list that was accepted
pub legally : (wanted : ℕ) (P : List EnvCall → Type 0) → P [] → ((calls : List EnvCall) (c : EnvCall) → refusal_of wanted calls c ≡ None → P calls → P (calls ++ c ∷ []))
    → (calls : List EnvCall) → IsLegal wanted calls → P calls
legally wanted P none step calls =
    snoc_from (λ l. IsLegal wanted l → P l) (λ l c ih legal. step l c (legal_last wanted l c legal) (ih (legal_front wanted l c legal))) [] calls (λ legal. none)
