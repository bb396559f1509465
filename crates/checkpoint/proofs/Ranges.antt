-- Bytes that agree from some place on.
use Rattle.std.proofs.Common.{◌≡◌, ℕ, ◌+◌, ◌-◌, ◌≤◌, List, drop, sym, ◌∙◌, ap, arith}
use Rattle.std.proofs.lemmas.List.{drop-drop}

-- what agrees from one place on agrees from each later one on
pub later_same : (a k : ℕ) (xs ys : List ℕ) → drop a xs ≡ drop a ys → a ≤ k → drop k xs ≡ drop k ys
later_same a k xs ys same le =
    let more : a + (k - a) ≡ k = omega (arith, le) in
    ap (λ (n : ℕ). drop n xs) (sym more) ∙ sym (drop-drop (k - a) a xs) ∙ ap (λ (l : List ℕ). drop (k - a) l) same ∙ drop-drop (k - a) a ys ∙ ap (λ (n : ℕ). drop n ys) more
