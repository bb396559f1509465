-- The places of the rows that pass a test, row by row.
use Rattle.std.proofs.Common.{◌≡◌, ℕ, ◌+◌, ◌<◌, Bool, true, false, cond, List, [], ◌∷◌, ◌++◌, length, get_or, take, map, refl, sym, ap, subst, ◌∙◌, arith, add-zero, zero-add}
use Rattle.std.specs.List.{enumerate_from}
use Rattle.std.proofs.lemmas.List.{append-nil, map-append, take_more, length-take-le}
use Rattle.std.proofs.lemmas.List.Elements.{filter-append}
use Rattle.invoke_records.specs.declared.row.EventRow.{EventRow}
use Rattle.operator_view.specs.Page.{places_where}

enumerate_from-push : {X : Type 0} (n : ℕ) (xs : List X) (x : X) → enumerate_from n (xs ++ x ∷ []) ≡ enumerate_from n xs ++ (n + length xs, x) ∷ []
enumerate_from-push n [] x = rw add-zero refl
enumerate_from-push n (y ∷ ys) x =
    let e : n + 1 + length ys ≡ n + length (y ∷ ys) = omega arith in
    ap (λ l. (n, y) ∷ l) (rw (← e) (enumerate_from-push (n + 1) ys x))

-- a place that is kept, or is not
kept : (n : ℕ) (r : EventRow) (b : Bool) → map (λ (e : ℕ × EventRow). e.0) (cond b ((n, r) ∷ []) []) ≡ cond b (n ∷ []) []
kept n r true = refl
kept n r false = refl

pub places_where-push : (test : ℕ → EventRow → Bool) (rows : List EventRow) (r : EventRow)
    → places_where test (rows ++ r ∷ []) ≡ places_where test rows ++ cond (test (length rows) r) (length rows ∷ []) []
places_where-push test rows r =
    rw (enumerate_from-push 0 rows r, zero-add, filter-append, map-append)
    (ap (λ l. places_where test rows ++ l) (kept (length rows) r (test (length rows) r)))

-- the next row
pub places_where-more : (test : ℕ → EventRow → Bool) (rows : List EventRow) (i : ℕ) (r : EventRow) → i < length rows → r ≡ get_or rows i r
    → places_where test (take (i + 1) rows) ≡ places_where test (take i rows) ++ cond (test i r) (i ∷ []) []
places_where-more test rows i r within is =
    let e : take (i + 1) rows ≡ take i rows ++ r ∷ [] = take_more rows i r within ∙ ap (λ x. take i rows ++ x ∷ []) (sym is) in
    let n : length (take i rows) ≡ i = length-take-le i rows (omega arith) in
    rw e (subst (λ (k : ℕ). places_where test (take i rows ++ r ∷ []) ≡ places_where test (take i rows) ++ cond (test k r) (k ∷ []) []) n
    (places_where-push test (take i rows) r))

-- the next row passes
pub places_where-kept : (test : ℕ → EventRow → Bool) (rows : List EventRow) (i : ℕ) (r : EventRow) (places : List ℕ) → i < length rows → r ≡ get_or rows i r
    → test i r ≡ true → places ≡ places_where test (take i rows) → places ++ i ∷ [] ≡ places_where test (take (i + 1) rows)
places_where-kept test rows i r places within is passes so_far =
    rw (places_where-more test rows i r within is, passes) (ap (λ l. l ++ i ∷ []) so_far)

-- it does not
pub places_where-left : (test : ℕ → EventRow → Bool) (rows : List EventRow) (i : ℕ) (r : EventRow) (places : List ℕ) → i < length rows → r ≡ get_or rows i r
    → test i r ≡ false → places ≡ places_where test (take i rows) → places ≡ places_where test (take (i + 1) rows)
places_where-left test rows i r places within is fails so_far =
    rw (places_where-more test rows i r within is, fails) (so_far ∙ sym (append-nil (places_where test (take i rows))))
