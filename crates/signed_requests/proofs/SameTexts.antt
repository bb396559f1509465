-- Two texts are the same where no byte differs, and where one differs the differences are not 0.
use Rattle.std.proofs.Common.{◌≡◌, ◌+◌, ◌<◌, ◌≤◌, ℕ, List, [], ◌∷◌, ◌++◌, length, take, get_or, sym, ap, ◌∙◌, arith, bit_xor, bit_or}
use Rattle.std.proofs.lemmas.List.{take_more, take_all}
use Rattle.std.proofs.lemmas.Nat.{le_or_l, le_or_r}
use Rattle.std.specs.Int.Bits.{xor_self, xor_assoc, xor_zero_l, xor_zero_r, or_zero_l}

xor_none : (x y : ℕ) → bit_xor x y ≡ 0 → x ≡ y
xor_none x y e =
    sym (xor_zero_r x) ∙ ap (bit_xor x) (sym (xor_self y)) ∙ sym (xor_assoc x y y) ∙ ap (λ z. bit_xor z y) e ∙ xor_zero_l y

or_none_l : (a b : ℕ) → bit_or a b ≡ 0 → a ≡ 0
or_none_l a b e = let h = le_or_l a b in omega arith

or_none_r : (a b : ℕ) → bit_or a b ≡ 0 → b ≡ 0
or_none_r a b e = let h = le_or_r a b in omega arith

-- so far they are the same where nothing differed
pub same_more : (xs ys : List ℕ) (i n : ℕ) → i < length xs → length xs ≡ length ys → (n ≡ 0 → take i xs ≡ take i ys)
    → bit_or n (bit_xor (get_or xs i 0) (get_or ys i 0)) ≡ 0 → take (i + 1) xs ≡ take (i + 1) ys
same_more xs ys i n h long same e =
    let one = xor_none (get_or xs i 0) (get_or ys i 0) (or_none_r n (bit_xor (get_or xs i 0) (get_or ys i 0)) e) in
    let before = same (or_none_l n (bit_xor (get_or xs i 0) (get_or ys i 0)) e) in
    take_more xs i 0 h ∙ ap (λ l. l ++ get_or xs i 0 ∷ []) before ∙ ap (λ b. take i ys ++ b ∷ []) one
    ∙ sym (take_more ys i 0 (omega (arith, long)))

-- and nothing differs of two that are the same
pub none_more : (xs ys : List ℕ) (i n : ℕ) → (xs ≡ ys → n ≡ 0) → xs ≡ ys
    → bit_or n (bit_xor (get_or xs i 0) (get_or ys i 0)) ≡ 0
none_more xs ys i n none e =
    ap (λ l. bit_or n (bit_xor (get_or l i 0) (get_or ys i 0))) e ∙ ap (bit_or n) (xor_self (get_or ys i 0))
    ∙ ap (λ m. bit_or m 0) (none e) ∙ or_zero_l 0

pub whole : (xs ys : List ℕ) (i : ℕ) → length xs ≤ i → length xs ≡ length ys → take i xs ≡ take i ys → xs ≡ ys
whole xs ys i h long e = sym (take_all i xs h) ∙ e ∙ take_all i ys (omega (arith, long))
