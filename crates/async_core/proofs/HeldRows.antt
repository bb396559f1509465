-- Rows by places: what a look-up by the first place of an id finds, and what a change at that place does to the list.
use Rattle.std.proofs.Common.{◌≡◌, ℕ, ◌≤◌, ◌<◌, List, [], ◌∷◌, ◌++◌, Bool, true, false, cond, Option, Some, None, refl, sym, ap, ◌∙◌, arith, ◌⊎◌, inl, inr}
use Rattle.std.specs.Prelude.{find, IsSome, IsTrue}
use Rattle.std.specs.List.{AllByRecursion}
use Rattle.std.specs.List.Sorted.{IsStrictlySortedBy}
use Rattle.std.specs.Map.{lookup, set_value, remove_entry, values_of, keys_of}
use Rattle.std.specs.BTreeMap.{insert_entry, is_at}
use Rattle.std.specs.Ordering.{nat_cmp, is_eq}
use Rattle.std.specs.declared.cmp.Ordering.TheVariants.{Less, Greater}
use Rattle.std.specs.Cmp.{nat_cmp_total}
use Rattle.std.proofs.lemmas.Bool.{true≢false, cases_Bool}
use Rattle.std.proofs.lemmas.Bool.Decides.{nat_tests}
use Rattle.std.proofs.lemmas.Cmp.{tied_itself}
use Rattle.std.proofs.lemmas.Map.Keys.{sorted_head, sorted_tail}
use Rattle.invoke_records.specs.declared.row.EventRow.{EventRow}
use Rattle.async_core.specs.Rules.{has_id, change_row, remove_row}
use Rattle.async_core.specs.Ids.{has_name}

-- the row at a place
abbrev pub row_in : List (ℕ × EventRow) → ℕ → Option EventRow
row_in es place = lookup (is_at (nat_cmp place)) es

-- no row of these has the id
abbrev pub NoneNamed : List ℕ → List (ℕ × EventRow) → Type 0
NoneNamed id [] = Unit {0}
NoneNamed id (e ∷ es) = (has_id id e.1 ≡ false) × NoneNamed id es

-- the first row of the id is this one, at this place
abbrev pub FirstAt : List ℕ → ℕ → EventRow → List (ℕ × EventRow) → Type 0
FirstAt id place r [] = ⊥
FirstAt id place r (e ∷ es) = ((e ≡ (place, r)) × (has_id id r ≡ true)) ⊎ ((is_at (nat_cmp place) e.0 ≡ false) × (has_id id e.1 ≡ false) × FirstAt id place r es)

is_itself : (n : ℕ) → is_eq (nat_cmp n n) ≡ true
is_itself n = rw (tied_itself nat_cmp_total n) refl

-- ## By the places of ids

-- a row is found at its place
head_row : (e : ℕ × EventRow) (es : List (ℕ × EventRow)) → row_in (e ∷ es) e.0 ≡ Some e.1
head_row e es = rw (is_itself e.0) refl

-- a place of the others is behind the first one
behind_by : (e x : ℕ × EventRow) (es : List (ℕ × EventRow)) (q : ℕ) (b : Bool) → is_eq (nat_cmp q x.0) ≡ b → nat_cmp e.0 x.0 ≡ Less → (IsSome (row_in es q) → e.0 < q) → IsSome (cond b (Some x.1) (row_in es q)) → e.0 < q
behind_by e x es q true here after rest found = grind (arith, nat_tests)
behind_by e x es q false there after rest found = rest found

later_place : (e : ℕ × EventRow) (es : List (ℕ × EventRow)) (q : ℕ) → AllByRecursion (λ k. nat_cmp e.0 k ≡ Less) (keys_of es) → IsSome (row_in es q) → e.0 < q
later_place e [] q after found = absurd (true≢false (sym found))
later_place e (x ∷ es) q after found = behind_by e x es q (is_eq (nat_cmp q x.0)) refl after.0 (later_place e es q after.1) found

-- what is found among the others is found among all
tail_row : (e : ℕ × EventRow) (es : List (ℕ × EventRow)) (q : ℕ) → AllByRecursion (λ k. nat_cmp e.0 k ≡ Less) (keys_of es) → IsSome (row_in es q) → row_in (e ∷ es) q ≡ row_in es q
tail_row e es q after found =
    let lt : e.0 < q = later_place e es q after found in
    let apart : is_eq (nat_cmp q e.0) ≡ false = grind (arith, nat_tests) in
    rw apart refl

rest_unnamed : (id : List ℕ) (e : ℕ × EventRow) (es : List (ℕ × EventRow)) (q : ℕ) (o : Option EventRow) → row_in es q ≡ o → AllByRecursion (λ k. nat_cmp e.0 k ≡ Less) (keys_of es) → has_name id (row_in (e ∷ es) q) ≡ false → has_name id (row_in es q) ≡ false
rest_unnamed id e es q None is after none = rw is refl
rest_unnamed id e es q (Some r) is after none = ap (has_name id) (sym (tail_row e es q after (rw is refl))) ∙ none

pub none_named : (id : List ℕ) (es : List (ℕ × EventRow)) → IsStrictlySortedBy nat_cmp (keys_of es) → ((place : ℕ) → has_name id (row_in es place) ≡ false) → NoneNamed id es
none_named id [] ascending none = tt
none_named id (e ∷ es) ascending none =
    let after = sorted_head nat_cmp e.0 (keys_of es) ascending in
    let behind = sorted_tail nat_cmp e.0 (keys_of es) ascending in
    (ap (has_name id) (sym (head_row e es)) ∙ none e.0, none_named id es behind (λ q. rest_unnamed id e es q (row_in es q) refl after (none q)))

some_named : (id : List ℕ) (o : Option EventRow) → has_name id o ≡ true → IsSome o
some_named id None has = absurd (true≢false (sym has))
some_named id (Some r) has = refl

first_unnamed : (id : List ℕ) (e : ℕ × EventRow) (es : List (ℕ × EventRow)) (p : ℕ) → ((q : ℕ) → IsTrue (has_name id (row_in (e ∷ es) q)) → p ≤ q) → e.0 < p → (has_id id e.1 ≡ true) ⊎ (has_id id e.1 ≡ false) → has_id id e.1 ≡ false
first_unnamed id e es p least behind (inl has) = absurd (omega (arith, least e.0 (ap (has_name id) (head_row e es) ∙ has), behind))
first_unnamed id e es p least behind (inr has) = has

abbrev IsFound : List ℕ → ℕ → List (ℕ × EventRow) → Type 0
IsFound id p es = (r : EventRow) × (row_in es p ≡ Some r) × FirstAt id p r es

found_by : (id : List ℕ) (p : ℕ) (e : ℕ × EventRow) (es : List (ℕ × EventRow)) → AllByRecursion (λ k. nat_cmp e.0 k ≡ Less) (keys_of es) → has_name id (row_in (e ∷ es) p) ≡ true → ((q : ℕ) → IsTrue (has_name id (row_in (e ∷ es) q)) → p ≤ q)
    → (has_name id (row_in es p) ≡ true → ((q : ℕ) → IsTrue (has_name id (row_in es q)) → p ≤ q) → IsFound id p es) → (b : Bool) → is_eq (nat_cmp p e.0) ≡ b → IsFound id p (e ∷ es)
found_by id p e es after named least rest true here =
    let same : p ≡ e.0 = grind (arith, nat_tests) in
    let found : row_in (e ∷ es) p ≡ Some e.1 = rw here refl in
    (e.1, found, inl (ap (λ k. (k, e.1)) (sym same), ap (has_name id) (sym found) ∙ named))
found_by id p e es after named least rest false there =
    let found : row_in (e ∷ es) p ≡ row_in es p = rw there refl in
    let named_there : has_name id (row_in es p) ≡ true = ap (has_name id) (sym found) ∙ named in
    let behind : e.0 < p = later_place e es p after (some_named id (row_in es p) named_there) in
    let more = rest named_there (λ q has. least q (ap (has_name id) (tail_row e es q after (some_named id (row_in es q) has)) ∙ has)) in
    (more.0, found ∙ more.1, inr (there, first_unnamed id e es p least behind (cases_Bool (has_id id e.1)), more.2))

pub first_at : (id : List ℕ) (p : ℕ) (es : List (ℕ × EventRow)) → IsStrictlySortedBy nat_cmp (keys_of es) → has_name id (row_in es p) ≡ true → ((q : ℕ) → IsTrue (has_name id (row_in es q)) → p ≤ q) → IsFound id p es
first_at id p [] ascending named least = absurd (true≢false (sym named))
first_at id p (e ∷ es) ascending named least =
    let after = sorted_head nat_cmp e.0 (keys_of es) ascending in
    let behind = sorted_tail nat_cmp e.0 (keys_of es) ascending in
    found_by id p e es after named least (first_at id p es behind) (is_eq (nat_cmp p e.0)) refl

-- ## What the list is

pub find_none : (id : List ℕ) (es : List (ℕ × EventRow)) → NoneNamed id es → find (has_id id) (values_of es) ≡ None
find_none id [] none = refl
find_none id (e ∷ es) none = rw none.0 (find_none id es none.1)

pub find_first : (id : List ℕ) (p : ℕ) (r : EventRow) (es : List (ℕ × EventRow)) → FirstAt id p r es → find (has_id id) (values_of es) ≡ Some r
find_first id p r [] first = absurd first
find_first id p r (e ∷ es) (inl here) = rw (here.0, here.1) refl
find_first id p r (e ∷ es) (inr there) = rw there.1 (find_first id p r es there.2)

pub change_none : (id : List ℕ) (f : EventRow → EventRow) (es : List (ℕ × EventRow)) → NoneNamed id es → change_row id f (values_of es) ≡ values_of es
change_none id f [] none = refl
change_none id f (e ∷ es) none = rw none.0 (ap (λ rows. e.1 ∷ rows) (change_none id f es none.1))

pub change_first : (id : List ℕ) (f : EventRow → EventRow) (p : ℕ) (r w : EventRow) (es : List (ℕ × EventRow)) → FirstAt id p r es → w ≡ f r → values_of (set_value (is_at (nat_cmp p)) es w) ≡ change_row id f (values_of es)
change_first id f p r w [] first is = absurd first
change_first id f p r w (e ∷ es) (inl here) is = rw (here.0, is_itself p, here.1, is) refl
change_first id f p r w (e ∷ es) (inr there) is = rw (there.0, there.1) (ap (λ rows. e.1 ∷ rows) (change_first id f p r w es there.2 is))

pub remove_none : (id : List ℕ) (es : List (ℕ × EventRow)) → NoneNamed id es → remove_row id (values_of es) ≡ values_of es
remove_none id [] none = refl
remove_none id (e ∷ es) none = rw none.0 (ap (λ rows. e.1 ∷ rows) (remove_none id es none.1))

pub remove_first : (id : List ℕ) (p : ℕ) (r : EventRow) (es : List (ℕ × EventRow)) → FirstAt id p r es → values_of (remove_entry (is_at (nat_cmp p)) es) ≡ remove_row id (values_of es)
remove_first id p r [] first = absurd first
remove_first id p r (e ∷ es) (inl here) = rw (here.0, is_itself p, here.1) refl
remove_first id p r (e ∷ es) (inr there) = rw (there.0, there.1) (ap (λ rows. e.1 ∷ rows) (remove_first id p r es there.2))

-- a row at a place behind all others comes at the end
some_among : {A : Type 0} (x : A) (o : Option A) (b : Bool) → IsSome o → IsSome (cond b (Some x) o)
some_among x o true found = refl
some_among x o false found = found

pub pushed : (n : ℕ) (r : EventRow) (es : List (ℕ × EventRow)) → ((q : ℕ) → IsSome (row_in es q) → q < n) → values_of (insert_entry nat_cmp es n r) ≡ values_of es ++ r ∷ []
pushed n r [] below = refl
pushed n r (e ∷ es) below =
    let lt : e.0 < n = below e.0 (rw (head_row e es) refl) in
    let behind : nat_cmp n e.0 ≡ Greater = grind (arith, nat_tests) in
    rw behind (ap (λ rows. e.1 ∷ rows) (pushed n r es (λ q found. below q (some_among e.1 (row_in es q) (is_eq (nat_cmp q e.0)) found))))
