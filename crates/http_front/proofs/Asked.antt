-- Laws: two requests that came last with one slot are one.
use Rattle.std.proofs.Common.{◌≡◌, ℕ, List, [], ◌∷◌, ◌++◌, Bool, true, false, ◌||◌, ◌==◌, refl, sym, ap, ◌∙◌}
use Rattle.std.specs.List.{list_any}
use Rattle.std.proofs.lemmas.Bool.{true≢false, eq-eqb}
use Rattle.retry_rules.specs.declared.settings.Settings.{Settings}
use Rattle.api_core.specs.declared.call.Call.{Call}
use Rattle.hall_plans.specs.Past.{arrive}
use Rattle.hall_plans.specs.Promises.{comes_with}
use Rattle.promises.specs.Promises.{Telling, IsLastRequest}

head_is : {A : Type 0} (x y : A) (xs ys : List A) → x ∷ xs ≡ y ∷ ys → x ≡ y
head_is x y xs ys h = cc

tail_is : {A : Type 0} (x y : A) (xs ys : List A) → x ∷ xs ≡ y ∷ ys → xs ≡ ys
tail_is x y xs ys h = cc

any_here : (a b : Bool) → a ≡ true → (a || b) ≡ true
any_here a b is = rw is refl

any_there : (a b : Bool) → b ≡ true → (a || b) ≡ true
any_there true b is = refl
any_there false b is = is

any_within : {A : Type 0} (p : A → Bool) (xs : List A) (x : A) (ys : List A) → p x ≡ true → list_any p (xs ++ x ∷ ys) ≡ true
any_within p [] x ys is = any_here (p x) (list_any p ys) is
any_within p (y ∷ xs) x ys is = any_there (p y) (list_any p (xs ++ x ∷ ys)) (any_within p xs x ys is)

not_within : {A B : Type 0} (p : A → Bool) (xs : List A) (x : A) (ys zs : List A) → p x ≡ true → list_any p zs ≡ false → zs ≡ xs ++ x ∷ ys → B
not_within p xs x ys zs is none same = absurd (true≢false (sym (any_within p xs x ys is) ∙ ap (list_any p) (sym same) ∙ none))

-- the last element that passes is one
last_is : {A : Type 0} (p : A → Bool) (xs ys : List A) (x y : A) (xs' ys' : List A) → p x ≡ true → p y ≡ true → list_any p xs' ≡ false → list_any p ys' ≡ false
    → xs ++ x ∷ xs' ≡ ys ++ y ∷ ys' → x ≡ y
last_is p [] [] x y xs' ys' px py nx ny same = head_is x y xs' ys' same
last_is p [] (b ∷ ys) x y xs' ys' px py nx ny same = not_within p ys y ys' xs' py nx (tail_is x b xs' (ys ++ y ∷ ys') same)
last_is p (a ∷ xs) [] x y xs' ys' px py nx ny same = not_within p xs x xs' ys' px ny (sym (tail_is a y (xs ++ x ∷ xs') ys' same))
last_is p (a ∷ xs) (b ∷ ys) x y xs' ys' px py nx ny same =
    last_is p xs ys x y xs' ys' px py nx ny (tail_is a b (xs ++ x ∷ xs') (ys ++ y ∷ ys') same)

request_is : (slot : ℕ) (a b : Call) (n m : ℕ) (v w : ℕ × ℕ) → arrive slot a n v ≡ arrive slot b m w → a ≡ b
request_is slot a b n m v w h = cc

it_comes : (slot : ℕ) (call : Call) (now : ℕ) (words : ℕ × ℕ) → comes_with slot (arrive slot call now words) ≡ true
it_comes slot call now words = any_here (slot == slot) false (eq-eqb slot slot refl)

pub last_request_is : (s : Settings) (t : Telling s) (a b : Call) → IsLastRequest s t a → IsLastRequest s t b → a ≡ b
last_request_is s t a b one two =
    request_is t.slot a b one.now two.now one.words two.words
    (last_is (comes_with t.slot) one.before two.before (arrive t.slot a one.now one.words) (arrive t.slot b two.now two.words) one.later two.later
    (it_comes t.slot a one.now one.words) (it_comes t.slot b two.now two.words) one.last two.last (sym one.calls ∙ two.calls))
