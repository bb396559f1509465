-- A response is made header by header.
use Rattle.std.proofs.Common.{◌≡◌, ℕ, ◌+◌, ◌≤◌, List, [], ◌∷◌, length, drop, slice_get, Some, sym, ap, ◌∙◌}
use Rattle.std.proofs.lemmas.List.{drop_more, drop_all}
use Rattle.std.proofs.lemmas.Option.{slice_get_within, get_or_from_slice_get}
use Rattle.http_port.specs.Answering.{Message, with_more}

next_of : {X : Type 0} (xs : List X) (i : ℕ) (x : X) → slice_get xs i ≡ Some x → drop i xs ≡ x ∷ drop (i + 1) xs
next_of xs i x here = drop_more xs i x (slice_get_within xs i x here) ∙ ap (λ y. y ∷ drop (i + 1) xs) (get_or_from_slice_get xs i x x here)

module _ (draft all : Message) (headers : List (List ℕ × List ℕ)) (place : ℕ) where
  -- with one header more there is one less to be added
  pub drafted_more : (next : Message) (header : List ℕ × List ℕ) → slice_get headers place ≡ Some header → next ≡ with_more draft (header ∷ [])
      → with_more draft (drop place headers) ≡ all → with_more next (drop (place + 1) headers) ≡ all
  drafted_more next header here is so_far =
      ap (λ (m : Message). with_more m (drop (place + 1) headers)) is
      ∙ (sym (ap (λ (more : List (List ℕ × List ℕ)). with_more draft more) (next_of headers place header here)) ∙ so_far)

  pub drafted_all : length headers ≤ place → with_more draft (drop place headers) ≡ all → draft ≡ all
  drafted_all past so_far =
      sym (ap (λ (more : List (List ℕ × List ℕ)). with_more draft more) (drop_all place headers past)) ∙ so_far
