-- Lemmas: the elements of a list by their places, and the first number of a range that does.
use Rattle.std.proofs.Common.{◌≡◌, ℕ, zero, suc, ◌+◌, ◌-◌, ◌<◌, ◌≤◌, List, [], ◌∷◌, ◌++◌, length, Bool, true, false, refl, ap, ◌∙◌, arith, Option, Some, None, ◌⊎◌, inl, inr}
use Rattle.std.specs.Prelude.{slice_get, slice_set, find}
use Rattle.std.specs.List.{range_with_len}
use Rattle.std.proofs.lemmas.Option.{none-some}

-- ## Elements

-- behind the others stands the new one
pub get_of_more : {A : Type 0} (xs : List A) (y : A) (k : ℕ) (x : A) → slice_get (xs ++ y ∷ []) k ≡ Some x → (slice_get xs k ≡ Some x) ⊎ ((k ≡ length xs) × (y ≡ x))
get_of_more [] y zero x h = inr (refl, cc)
get_of_more [] y (suc k) x h = absurd (none-some x h)
get_of_more (z ∷ xs) y zero x h = inl h
get_of_more (z ∷ xs) y (suc k) x h = elim (get_of_more xs y k x h) [ inl e ↦ inl e | inr both ↦ inr (omega arith, both.1) ]

-- at the place stands the new one, elsewhere what stood there
pub get_of_set : {A : Type 0} (xs : List A) (i : ℕ) (y : A) (k : ℕ) (x : A) → slice_get (slice_set xs i y) k ≡ Some x → ((k ≡ i) × (y ≡ x)) ⊎ ((k ≡ i → ⊥) × (slice_get xs k ≡ Some x))
get_of_set [] i y k x h = absurd (none-some x h)
get_of_set (z ∷ xs) zero y zero x h = inl (refl, cc)
get_of_set (z ∷ xs) zero y (suc k) x h = inr (λ same. omega arith, h)
get_of_set (z ∷ xs) (suc i) y zero x h = inr (λ same. omega arith, h)
get_of_set (z ∷ xs) (suc i) y (suc k) x h =
    elim (get_of_set xs i y k x h) [ inl both ↦ inl (omega arith, both.1) | inr both ↦ inr (λ same. both.0 (omega arith), both.1) ]

-- ## The first number that does

one_less : (len i : ℕ) → i < len → len - i ≡ suc (len - (i + 1))
one_less len i h = omega arith

-- from the number behind the place i on, up to the last of so many
abbrev pub first_behind : (ℕ → Bool) → ℕ → ℕ → Option ℕ
first_behind does len i = find does (range_with_len (i + 1) (len - i))

pub first_is_here : (does : ℕ → Bool) (len i : ℕ) → i < len → does (i + 1) ≡ true → first_behind does len i ≡ Some (i + 1)
first_is_here does len i h so = rw (one_less len i h, so) refl

pub first_is_later : (does : ℕ → Bool) (len i : ℕ) → i < len → does (i + 1) ≡ false → first_behind does len i ≡ first_behind does len (i + 1)
first_is_later does len i h so = rw (one_less len i h, so) refl

none_left : (len i : ℕ) → len ≤ i → len - i ≡ zero
none_left len i h = omega arith

pub first_is_none : (does : ℕ → Bool) (len i : ℕ) → len ≤ i → first_behind does len i ≡ None
first_is_none does len i h = rw (none_left len i h) refl

all_left : (len : ℕ) → len - 0 ≡ len
all_left len = omega arith

pub first_of_all : (does : ℕ → Bool) (len : ℕ) → first_behind does len 0 ≡ find does (range_with_len 1 len)
first_of_all does len = rw (all_left len) refl

-- ## One number more

pub range_more : (a n j : ℕ) → a + n ≡ j → range_with_len a (n + 1) ≡ range_with_len a n ++ j ∷ []
range_more a zero j h = ap (λ k. k ∷ []) (omega arith)
range_more a (suc n) j h =
    let outer : suc n + 1 ≡ suc (suc n) = omega arith in
    let inner : suc n ≡ n + 1 = omega arith in
    ap (range_with_len a) outer ∙ ap (λ l. a ∷ l) (ap (range_with_len (a + 1)) inner ∙ range_more (a + 1) n j (omega arith))
