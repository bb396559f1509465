-- Laws: the first of a list by rank.
use Rattle.std.proofs.Common.{◌≡◌, ℕ, zero, suc, ◌<◌, ◌≤◌, List, [], ◌∷◌, length, Bool, true, false, ◌&&◌, refl, sym, subst, arith, Option, Some, None, ◌⊎◌, inl, inr, nat_lt, ◌==◌, if◌then◌else◌, Contains}
use Rattle.std.specs.Prelude.{option_map}
use Rattle.std.specs.List.{AllByRecursion, cons_option, filter_map, slice_index_or}
use Rattle.std.proofs.lemmas.Bool.{ltb-true, ltb-false, eqb-true, eqb-false, or_cases, or_parts, and_parts, and_cases, cases_lt}
use Rattle.async_core.specs.Choice.{goes_before}
use Rattle.hall_plans.specs.Firsts.{sooner, first_ranked, ranked, first_by}

-- ## Ranks

before_parts : (k j : ℕ × ℕ) → goes_before k j ≡ true → (k.0 < j.0) ⊎ ((k.0 ≡ j.0) × (k.1 < j.1))
before_parts k j h =
    elim (or_cases (nat_lt k.0 j.0) ((k.0 == j.0) && nat_lt k.1 j.1) h) [
      | inl a ↦ inl (ltb-true k.0 j.0 a)
      | inr b ↦ let both = and_parts (k.0 == j.0) (nat_lt k.1 j.1) b in inr (eqb-true k.0 j.0 both.0, ltb-true k.1 j.1 both.1)
    ]

apart_less : (a b : ℕ) → a ≤ b → (a ≡ b → ⊥) → a < b
apart_less a b le apart = elim (cases_lt a b) [ inl lt ↦ lt | inr ge ↦ absurd (apart (omega arith)) ]

after_parts : (k j : ℕ × ℕ) → goes_before k j ≡ false → (j.0 < k.0) ⊎ ((j.0 ≡ k.0) × (j.1 ≤ k.1))
after_parts k j h =
    let both = or_parts (nat_lt k.0 j.0) ((k.0 == j.0) && nat_lt k.1 j.1) h in
    let le : j.0 ≤ k.0 = ltb-false k.0 j.0 both.0 in
    elim (and_cases (k.0 == j.0) (nat_lt k.1 j.1) both.1) [
      | inl a ↦ let apart = eqb-false k.0 j.0 a in inl (apart_less j.0 k.0 le (λ e. apart (sym e)))
      | inr b ↦ let low : j.1 ≤ k.1 = ltb-false k.1 j.1 b in elim (cases_lt j.0 k.0) [ inl lt ↦ inl lt | inr ge ↦ inr (omega arith, low) ]
    ]

not_both : (a b : ℕ × ℕ) → (a.0 < b.0) ⊎ ((a.0 ≡ b.0) × (a.1 < b.1)) → (b.0 < a.0) ⊎ ((b.0 ≡ a.0) × (b.1 ≤ a.1)) → ⊥
not_both a b (inl p) (inl q) = omega arith
not_both a b (inl p) (inr q) = omega arith
not_both a b (inr p) (inl q) = omega arith
not_both a b (inr p) (inr q) = omega arith

weakly : (a b : ℕ × ℕ) → (a.0 < b.0) ⊎ ((a.0 ≡ b.0) × (a.1 < b.1)) → (a.0 < b.0) ⊎ ((a.0 ≡ b.0) × (a.1 ≤ b.1))
weakly a b (inl p) = inl p
weakly a b (inr p) = inr (p.0, omega arith)

pub before : (a b : ℕ × ℕ) → (a.0 < b.0) ⊎ ((a.0 ≡ b.0) × (a.1 < b.1)) → goes_before a b ≡ true
before a b p = go (goes_before a b) refl
  where
    go : (t : Bool) → goes_before a b ≡ t → t ≡ true
    go true e = refl
    go false e = absurd (not_both a b p (after_parts a b e))

not_back : (a b : ℕ × ℕ) → goes_before a b ≡ true → goes_before b a ≡ false
not_back a b h = go (goes_before b a) refl
  where
    go : (t : Bool) → goes_before b a ≡ t → t ≡ false
    go true e = absurd (not_both a b (before_parts a b h) (weakly b a (before_parts b a e)))
    go false e = refl

-- ## The first of a list

abbrev pub IsIn : {A : Type 0} → A → List A → Type 0
IsIn x [] = ⊥
IsIn x (y ∷ ys) = (y ≡ x) ⊎ IsIn x ys

at_place : {A : Type 0} (xs : List A) (x : A) (k : ℕ) → k < length xs → slice_index_or xs k x ≡ x → IsIn x xs
at_place [] x k lt is = omega arith
at_place (y ∷ ys) x zero lt is = inl is
at_place (y ∷ ys) x (suc k) lt is = inr (at_place ys x k (omega arith) is)

pub in_from_contains : {A : Type 0} (xs : List A) (x : A) → Contains xs x → IsIn x xs
in_from_contains xs x c = at_place xs x c.0 c.1 c.2

-- it is x, or x goes before it
abbrev pub Behind : {A : Type 0} → (ℕ × ℕ) × A → (ℕ × ℕ) × A → Type 0
Behind x y = (y ≡ x) ⊎ (goes_before x.0 y.0 ≡ true)

abbrev pub Holds : {A : Type 0} → (A → Type 0) → Option A → Type 0
Holds P None = Unit {0}
Holds P (Some x) = P x

either : {A : Type 0} (P : A → Type 0) (b : Bool) (x y : A) → P x → P y → Holds P (if b then Some y else Some x)
either P true x y p q = q
either P false x y p q = p

kept : {A : Type 0} (P : (ℕ × ℕ) × A → Type 0) (x : (ℕ × ℕ) × A) (o : Option ((ℕ × ℕ) × A)) → P x → Holds P o → Holds P (sooner x o)
kept P x None p h = p
kept P x (Some y) p h = either P (goes_before y.0 x.0) x y p h

pub first_has : {A : Type 0} (P : (ℕ × ℕ) × A → Type 0) (xs : List ((ℕ × ℕ) × A)) → AllByRecursion P xs → Holds P (first_ranked xs)
first_has P [] all = tt
first_has P (x ∷ xs) all = kept P x (first_ranked xs) all.0 (first_has P xs all.1)

same : {A : Type 0} (b : Bool) (x : A) → (if b then Some x else Some x) ≡ Some x
same true x = refl
same false x = refl

stays : {A : Type 0} (x : (ℕ × ℕ) × A) (o : Option ((ℕ × ℕ) × A)) → Holds (Behind x) o → sooner x o ≡ Some x
stays x None h = refl
stays x (Some y) (inl e) = rw e (same (goes_before x.0 x.0) x)
stays x (Some y) (inr h) = rw (not_back x.0 y.0 h) refl

wins : {A : Type 0} (z x : (ℕ × ℕ) × A) → Behind x z → sooner z (Some x) ≡ Some x
wins z x (inl e) = rw e (same (goes_before x.0 x.0) x)
wins z x (inr h) = rw h refl

first_is : {A : Type 0} (xs : List ((ℕ × ℕ) × A)) (x : (ℕ × ℕ) × A) → IsIn x xs → AllByRecursion (Behind x) xs → first_ranked xs ≡ Some x
first_is [] x i all = absurd i
first_is (z ∷ zs) x (inl e) all =
    subst (λ w. sooner w (first_ranked zs) ≡ Some x) (sym e) (stays x (first_ranked zs) (first_has (Behind x) zs all.1))
first_is (z ∷ zs) x (inr i) all = rw (first_is zs x i all.1) (wins z x all.0)

module _ {A : Type 0} (rank : A → Option (ℕ × ℕ)) (x : A) (k : ℕ × ℕ) where
  in_behind : (o : Option ((ℕ × ℕ) × A)) (ys : List ((ℕ × ℕ) × A)) → IsIn (k, x) ys → IsIn (k, x) (cons_option o ys)
  in_behind None ys i = i
  in_behind (Some y) ys i = inr i

  in_ranked : (xs : List A) → rank x ≡ Some k → IsIn x xs → IsIn (k, x) (filter_map (ranked rank) xs)
  in_ranked [] is i = absurd i
  in_ranked (z ∷ zs) is (inl e) =
      subst (λ w. IsIn (k, x) (cons_option (option_map (λ at. (at, w)) (rank w)) (filter_map (ranked rank) zs))) (sym e) (rw is (inl refl))
  in_ranked (z ∷ zs) is (inr i) = in_behind (ranked rank z) (filter_map (ranked rank) zs) (in_ranked zs is i)

  -- whatever rank this one has, it is behind
  abbrev RankBehind : A → Type 0
  RankBehind y = (j : ℕ × ℕ) → rank y ≡ Some j → Behind {A = A} (k, x) (j, y)

  behind_one : (z : A) (o : Option (ℕ × ℕ)) (ys : List ((ℕ × ℕ) × A)) → ((j : ℕ × ℕ) → o ≡ Some j → Behind {A = A} (k, x) (j, z))
      → AllByRecursion (Behind (k, x)) ys → AllByRecursion (Behind (k, x)) (cons_option (option_map (λ at. (at, z)) o) ys)
  behind_one z None ys h all = all
  behind_one z (Some j) ys h all = (h j refl, all)

  all_behind : (xs : List A) → AllByRecursion RankBehind xs → AllByRecursion (Behind (k, x)) (filter_map (ranked rank) xs)
  all_behind [] all = tt
  all_behind (z ∷ zs) all = behind_one z (rank z) (filter_map (ranked rank) zs) all.0 (all_behind zs all.1)

  -- of those that have a rank, this one goes first
  pub first_by-is : (xs : List A) → rank x ≡ Some k → IsIn x xs → AllByRecursion RankBehind xs → first_by rank xs ≡ Some x
  first_by-is xs is i all = rw (first_is (filter_map (ranked rank) xs) (k, x) (in_ranked xs is i) (all_behind xs all)) refl

none_ranked : {A : Type 0} (rank : A → Option (ℕ × ℕ)) (xs : List A) → AllByRecursion (λ y. rank y ≡ None) xs → filter_map (ranked rank) xs ≡ []
none_ranked rank [] all = refl
none_ranked rank (x ∷ xs) all = rw (all.0, none_ranked rank xs all.1) refl

pub first_by-none : {A : Type 0} (rank : A → Option (ℕ × ℕ)) (xs : List A) → AllByRecursion (λ y. rank y ≡ None) xs → first_by rank xs ≡ None
first_by-none rank xs all = rw (none_ranked rank xs all) refl

-- ## What holds of all

pub all_in : {A : Type 0} (P : A → Type 0) (xs : List A) → ((y : A) → IsIn y xs → P y) → AllByRecursion P xs
all_in P [] f = tt
all_in P (x ∷ xs) f = (f x (inl refl), all_in P xs (λ y i. f y (inr i)))

pub by_in : {A : Type 0} (P : A → Type 0) (xs : List A) (y : A) → AllByRecursion P xs → IsIn y xs → P y
by_in P [] y all i = absurd i
by_in P (x ∷ xs) y all (inl e) = subst P e all.0
by_in P (x ∷ xs) y all (inr i) = by_in P xs y all.1 i
