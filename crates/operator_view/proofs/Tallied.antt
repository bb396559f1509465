-- The numbers of some events and one more.
use Rattle.std.proofs.Common.{◌≡◌, ◌++◌, ◌<◌, ◌+◌, ◌^◌, ◌∙◌, ℕ, Bool, true, false, cond, min, List, [], ◌∷◌, length, Option, Some, None, option_map, find, count_by, refl, sym, ap, arith}
use Rattle.std.specs.List.{fold, filter_map, cons_option}
use Rattle.std.proofs.lemmas.List.{append-nil}
use Rattle.std.proofs.lemmas.List.Sums.{sum_by_push, count_by-le-length, fold-append}
use Rattle.std.proofs.lemmas.List.Elements.{filter_map-append}
use Rattle.invoke_records.specs.declared.row.EventRow.{EventRow}
use Rattle.operator_view.specs.Standings.{stands, waits}
use Rattle.operator_view.specs.Census.{least, oldest_waiting}

-- one more, where it passes
pub count_by-push : (test : EventRow → Bool) (rows : List EventRow) (r : EventRow) (n m : ℕ) → length rows < 2 ^ 63 → n ≡ count_by test rows
    → (n < 2 ^ 63 → m ≡ n + cond (test r) 1 0) → m ≡ count_by test (rows ++ r ∷ [])
count_by-push test rows r n m short is more =
    let within : n < 2 ^ 63 = omega (arith, count_by-le-length test rows) in
    more within ∙ ap (λ k. k + cond (test r) 1 0) is ∙ sym (sum_by_push (λ x. cond (test x) 1 0) rows r)

-- the earlier of two moments, as far as there are any
abbrev pub earlier : Option ℕ → Option ℕ → Option ℕ
earlier None other = other
earlier (Some one) None = Some one
earlier (Some one) (Some other) = Some (min one other)

fold-min : (a y : ℕ) (ys : List ℕ) → fold min (min a y) ys ≡ min a (fold min y ys)
fold-min a y [] = refl
fold-min a y (z ∷ zs) =
    let e : min (min a y) z ≡ min a (min y z) = omega arith in
    ap (λ (m : ℕ). fold min m zs) e ∙ fold-min a (min y z) zs

pub least-append : (xs ys : List ℕ) → earlier (least xs) (least ys) ≡ least (xs ++ ys)
least-append [] ys = refl
least-append (x ∷ xs) [] = ap least (sym (append-nil (x ∷ xs)))
least-append (x ∷ xs) (y ∷ ys) = ap Some (sym (fold-append min x xs (y ∷ ys) ∙ fold-min (fold min x xs) y ys))

-- when the first that waits was accepted, where the events before this one had it so
abbrev pub first_waiting : Option ℕ → EventRow → Option ℕ
first_waiting (Some before) row = Some before
first_waiting None row = cond (stands waits row) (Some row.accepted) None

first-behind : (rows : List EventRow) (r next : EventRow) (b : Bool) → first_waiting (oldest_waiting rows) r ≡ oldest_waiting (rows ++ r ∷ [])
    → first_waiting (option_map (λ (e : EventRow). e.accepted) (cond b (Some next) (find (stands waits) rows))) r
    ≡ option_map (λ (e : EventRow). e.accepted) (cond b (Some next) (find (stands waits) (rows ++ r ∷ [])))
first-behind rows r next true rest = refl
first-behind rows r next false rest = rest

alone : (r : EventRow) (b : Bool) → cond b (Some r.accepted) None ≡ option_map (λ (e : EventRow). e.accepted) (cond b (Some r) None)
alone r true = refl
alone r false = refl

pub first_waiting-push : (rows : List EventRow) (r : EventRow) → first_waiting (oldest_waiting rows) r ≡ oldest_waiting (rows ++ r ∷ [])
first_waiting-push [] r = alone r (stands waits r)
first_waiting-push (x ∷ xs) r = first-behind xs r x (stands waits x) (first_waiting-push xs r)

-- one moment, if there is any
pub least-one : (moment : Option ℕ) → moment ≡ least (cons_option moment [])
least-one None = refl
least-one (Some at) = refl

pub least-push : (moment : EventRow → Option ℕ) (rows : List EventRow) (r : EventRow) → least (filter_map moment rows ++ filter_map moment (r ∷ [])) ≡ least (filter_map moment (rows ++ r ∷ []))
least-push moment rows r = ap least (sym (filter_map-append moment rows (r ∷ [])))
