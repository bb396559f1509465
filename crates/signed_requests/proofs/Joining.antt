-- Pieces joined by a byte, as a loop joins them: the first, and each other one behind that byte.
use Rattle.std.proofs.Common.{◌≡◌, ℕ, List, [], ◌∷◌, ◌++◌, map, ap, sym, ◌∙◌}
use Rattle.std.specs.List.{flat_map, join_with_byte}
use Rattle.std.proofs.lemmas.List.{append-nil, append_assoc}
use Rattle.std.proofs.lemmas.List.Folds.{flat_map-map}

pub joined : (c : ℕ) (x : List ℕ) (xs : List (List ℕ)) → join_with_byte c (x ∷ xs) ≡ x ++ flat_map (λ y. c ∷ y) xs
joined c x [] = sym (append-nil x)
joined c x (y ∷ ys) = ap (λ rest. x ++ (c ∷ rest)) (joined c y ys)

-- the same, where each piece is made of something that is seen as something
joined_maps : {X Y : Type 0} (c : ℕ) (g : Y → List ℕ) (h : X → Y) (x : X) (rest : List X)
    → join_with_byte c (map g (map h (x ∷ rest))) ≡ g (h x) ++ flat_map (λ p. c ∷ g (h p)) rest
joined_maps c g h x rest =
    joined c (g (h x)) (map g (map h rest))
    ∙ ap (λ t. g (h x) ++ t) (flat_map-map (λ y. c ∷ y) g (map h rest) ∙ flat_map-map (λ y. c ∷ g y) h rest)

-- the first piece was put behind a text, and then the others
pub put_joined : {X Y : Type 0} (c : ℕ) (g : Y → List ℕ) (h : X → Y) (xs : List X) (x : X) (rest : List X) (old mid new : List ℕ)
    → xs ≡ x ∷ rest → mid ≡ old ++ g (h x) → new ≡ mid ++ flat_map (λ p. c ∷ g (h p)) rest
    → new ≡ old ++ join_with_byte c (map g (map h xs))
put_joined c g h xs x rest old mid new parts first others =
    others ∙ ap (λ m. m ++ flat_map (λ p. c ∷ g (h p)) rest) first ∙ append_assoc old (g (h x)) (flat_map (λ p. c ∷ g (h p)) rest)
    ∙ ap (λ t. old ++ t) (sym (joined_maps c g h x rest))
    ∙ ap (λ l. old ++ join_with_byte c (map g (map h l))) (sym parts)
