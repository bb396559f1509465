-- Parts of lists that have one front.
use Rattle.std.proofs.Common.{◌≡◌, ℕ, ◌+◌, ◌<◌, ◌≤◌, List, ◌++◌, take-append-drop, take, drop, get_or, sym, ◌∙◌, ap, arith}
use Rattle.std.proofs.lemmas.List.{take-take, drop-take, get_or-take, get_or-drop}

pub byte : (m k : ℕ) (xs ys : List ℕ) → take m xs ≡ take m ys → k < m → get_or xs k 0 ≡ get_or ys k 0
byte m k xs ys same within = sym (get_or-take m xs k 0 within) ∙ ap (λ (l : List ℕ). get_or l k 0) same ∙ get_or-take m ys k 0 within

pub first_of : (k : ℕ) (xs : List ℕ) → get_or (drop k xs) 0 0 ≡ get_or xs k 0
first_of k xs = get_or-drop k xs 0 0 ∙ ap (λ (j : ℕ). get_or xs j 0) (omega arith)

-- a shorter front
pub front_of : (m j : ℕ) (xs ys : List ℕ) → take m xs ≡ take m ys → j ≤ m → take j xs ≡ take j ys
front_of m j xs ys same within = sym (take-take j m xs within) ∙ ap (λ (l : List ℕ). take j l) same ∙ take-take j m ys within

-- a front in two parts
pub take-add : (n m : ℕ) (xs : List ℕ) → take (n + m) xs ≡ take n xs ++ take m (drop n xs)
take-add n m xs =
    let within : n ≤ n + m = omega arith in
    sym (take-append-drop n (take (n + m) xs)) ∙ (λ i. take-take n (n + m) xs within i ++ drop-take n m xs i)
