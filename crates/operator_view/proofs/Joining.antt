-- Pieces with commas between them, and lines, piece by piece.
use Rattle.std.proofs.Common.{◌≡◌, ℕ, zero, suc, ◌+◌, ◌<◌, List, [], ◌∷◌, ◌++◌, length, get_or, take, map, refl, sym, ap, subst, ◌∙◌, arith, append_assoc}
use Rattle.std.specs.List.{join_with_byte, concat}
use Rattle.std.proofs.lemmas.List.{append-nil, length-map, length-take-le, map_more}
use Rattle.std.proofs.lemmas.List.Folds.{concat-append}
use Rattle.operator_view.specs.ListText.{separator}

pub separator-later : (n : ℕ) → 0 < n → separator n ≡ 44 ∷ []
separator-later zero h = absurd (omega arith)
separator-later (suc n) h = refl

join_with_byte-push : (pieces : List (List ℕ)) (x : List ℕ) → join_with_byte 44 (pieces ++ x ∷ []) ≡ join_with_byte 44 pieces ++ (separator (length pieces) ++ x)
join_with_byte-push [] x = refl
join_with_byte-push (p ∷ []) x = refl
join_with_byte-push (p ∷ q ∷ pieces) x =
    ap (λ l. p ++ 44 ∷ l) (join_with_byte-push (q ∷ pieces) x) ∙ sym (append_assoc p (44 ∷ join_with_byte 44 (q ∷ pieces)) (separator (length (q ∷ pieces)) ++ x))

-- the next piece, of a number
pub joined-more : (f : ℕ → List ℕ) (xs : List ℕ) (i x : ℕ) → i < length xs → x ≡ get_or xs i 0
    → join_with_byte 44 (map f (take (i + 1) xs)) ≡ join_with_byte 44 (map f (take i xs)) ++ (separator i ++ f x)
joined-more f xs i x within is =
    let e : map f (take (i + 1) xs) ≡ map f (take i xs) ++ f x ∷ [] = map_more f xs i 0 within ∙ ap (λ y. map f (take i xs) ++ f y ∷ []) (sym is) in
    let n : length (map f (take i xs)) ≡ i = length-map (take i xs) f ∙ length-take-le i xs (omega arith) in
    rw e (subst (λ (k : ℕ). join_with_byte 44 (map f (take i xs) ++ f x ∷ []) ≡ join_with_byte 44 (map f (take i xs)) ++ (separator k ++ f x)) n
    (join_with_byte-push (map f (take i xs)) (f x)))

-- the next line, of a number
pub concat-more : (f : ℕ → List ℕ) (xs : List ℕ) (i x : ℕ) → i < length xs → x ≡ get_or xs i 0
    → concat (map f (take (i + 1) xs)) ≡ concat (map f (take i xs)) ++ f x
concat-more f xs i x within is =
    let e : map f (take (i + 1) xs) ≡ map f (take i xs) ++ f x ∷ [] = map_more f xs i 0 within ∙ ap (λ y. map f (take i xs) ++ f y ∷ []) (sym is) in
    rw (e, concat-append (map f (take i xs)) (f x ∷ []), append-nil) refl
