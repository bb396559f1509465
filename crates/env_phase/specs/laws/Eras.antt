-- Laws: the era alone decides what is met, and what one call more changes in that.
use Rattle.std.proofs.Common.{◌≡◌, ℕ, List, [], ◌∷◌, ◌++◌, map, reverse, Bool, true, false, ◌&&◌, ◌||◌, cond, refl, sym, subst, ap, ◌∙◌, None}
use Rattle.std.specs.Prelude.{is_some, is_none, nat_le}
use Rattle.std.specs.List.{list_any, list_all, after_last, last_or, filter_map}
use Rattle.std.proofs.lemmas.List.{reverse-append, reverse-reverse, map-append}
use Rattle.std.proofs.lemmas.Bool.{true≢false}
use Rattle.std.proofs.lemmas.List.Folds.{list_any-append}
use Rattle.env_phase.specs.declared.call.Party.{Party}
use Rattle.env_phase.specs.declared.call.EnvCall.{EnvCall}
use Rattle.env_phase.specs.declared.call.EnvCall.TheVariants.{Give, Answer, Shutdown}
use Rattle.env_phase.specs.Calls.{is_reset, clears, registration, releases, slot_by, given_by, ends_event}
use Rattle.env_phase.specs.Environment.{era, registered, slot_of, unanswered, is_parked, parties, has_enough, is_met, was_met, prefixes}
use Rattle.env_phase.specs.laws.Calls.{after_last-snoc, era-snoc}

-- ## What the era alone says

after_one : {X : Type 0} (q : X → Bool) (b : Bool) (xs ys : List X) (c : X) → (b ≡ true → q c ≡ true) → after_last q ys ≡ after_last q xs
    → after_last q (cond b [] (ys ++ c ∷ [])) ≡ cond (q c) [] (after_last q xs ++ c ∷ [])
after_one q true xs ys c h e = rw (h refl) refl
after_one q false xs ys c h e = after_last-snoc q ys c ∙ ap (λ l. cond (q c) [] (l ++ c ∷ [])) e

after_reversed : {X : Type 0} (p q : X → Bool) → ((x : X) → p x ≡ true → q x ≡ true) → (xs : List X) → after_last q (after_last p (reverse xs)) ≡ after_last q (reverse xs)
after_reversed p q h [] = refl
after_reversed p q h (x ∷ xs) =
    subst (λ l. after_last q (after_last p l) ≡ after_last q l) (sym (reverse-append (x ∷ []) xs))
    (ap (after_last q) (after_last-snoc p (reverse xs) x)
    ∙ after_one q (p x) (reverse xs) (after_last p (reverse xs)) x (h x) (after_reversed p q h xs)
    ∙ sym (after_last-snoc q (reverse xs) x))

-- what stands after the last that passes q, where all that pass p pass q
after_last_of_after_last : {X : Type 0} (p q : X → Bool) → ((x : X) → p x ≡ true → q x ≡ true) → (xs : List X) → after_last q (after_last p xs) ≡ after_last q xs
after_last_of_after_last p q h xs =
    subst (λ l. after_last q (after_last p l) ≡ after_last q l) (reverse-reverse xs) (after_reversed p q h (reverse xs))

resets_clear : (c : EnvCall) → is_reset c ≡ true → clears c ≡ true
resets_clear c h = rw h refl

resets_release : (party : Party) (c : EnvCall) → is_reset c ≡ true → releases party c ≡ true
resets_release party (Give id deadline) h = absurd (true≢false (sym h))
resets_release party (Shutdown now) h = refl
resets_release party c h = resets_clear c h

resets_end : (c : EnvCall) → is_reset c ≡ true → ends_event c ≡ true
resets_end (Answer id) h = refl
resets_end c h = h

pub registered-era : (calls : List EnvCall) → registered (era calls) ≡ registered calls
unfolding era registered
registered-era calls = ap (filter_map registration) (after_last_of_after_last is_reset clears resets_clear calls)

pub slot_of-era : (calls : List EnvCall) (party : Party) → slot_of (era calls) party ≡ slot_of calls party
unfolding era slot_of
slot_of-era calls party =
    ap (λ l. last_or None (filter_map (slot_by party.identifier) l)) (after_last_of_after_last is_reset (releases party) (resets_release party) calls)

pub unanswered-era : (calls : List EnvCall) → unanswered (era calls) ≡ unanswered calls
unfolding era unanswered
unanswered-era calls = ap (λ l. last_or None (filter_map given_by l)) (after_last_of_after_last is_reset ends_event resets_end calls)

list_all-same : {X : Type 0} (p q : X → Bool) → ((x : X) → p x ≡ q x) → (xs : List X) → list_all p xs ≡ list_all q xs
list_all-same p q h [] = refl
list_all-same p q h (x ∷ xs) = rw (h x, list_all-same p q h xs) refl

-- the era is met where the calls are
pub is_met_era : (wanted : ℕ) (calls : List EnvCall) → is_met wanted (era calls) ≡ is_met wanted calls
unfolding is_met
is_met_era wanted calls =
    rw (unanswered-era calls, registered-era calls)
    (ap (λ b. is_none (unanswered calls) && has_enough wanted calls && b) (list_all-same (is_parked (era calls)) (is_parked calls) (λ party. ap is_some (slot_of-era calls party)) (parties calls)))

-- ## Whether the era was met

prefixes-snoc : {A : Type 0} (xs : List A) (x : A) → prefixes (xs ++ x ∷ []) ≡ prefixes xs ++ (xs ++ x ∷ []) ∷ []
prefixes-snoc [] x = refl
prefixes-snoc (y ∷ ys) x =
    ap (λ ls. [] ∷ ls) (ap (map (λ rest. y ∷ rest)) (prefixes-snoc ys x) ∙ map-append (λ rest. y ∷ rest) (prefixes ys) ((ys ++ x ∷ []) ∷ []))

or-false : (b : Bool) → (b || false) ≡ b
or-false true = refl
or-false false = refl

and-false : (b : Bool) → (b && false) ≡ false
and-false true = refl
and-false false = refl

-- nobody has asked for anything
nothing_met : (wanted : ℕ) → is_met wanted [] ≡ false
unfolding is_met unanswered registered slot_of
nothing_met wanted = and-false (nat_le wanted 0)

was_met_if : (wanted : ℕ) (b : Bool) (calls : List EnvCall) (c : EnvCall)
    → list_any (is_met wanted) (prefixes (cond b [] (calls ++ c ∷ [])))
    ≡ cond b false (list_any (is_met wanted) (prefixes calls) || is_met wanted (calls ++ c ∷ []))
was_met_if wanted true calls c = rw (nothing_met wanted) refl
was_met_if wanted false calls c =
    ap (list_any (is_met wanted)) (prefixes-snoc calls c)
    ∙ list_any-append (is_met wanted) (prefixes calls) ((calls ++ c ∷ []) ∷ [])
    ∙ ap (λ b. list_any (is_met wanted) (prefixes calls) || b) (or-false (is_met wanted (calls ++ c ∷ [])))

pub none_was_met : (wanted : ℕ) → was_met wanted [] ≡ false
unfolding era
none_was_met wanted = rw (nothing_met wanted) refl

-- a reset begins an era that was not met, and any other call that leaves the era met is one by which it was
pub was_met_snoc : (wanted : ℕ) (calls : List EnvCall) (c : EnvCall)
    → was_met wanted (calls ++ c ∷ []) ≡ cond (is_reset c) false (was_met wanted calls || is_met wanted (era calls ++ c ∷ []))
was_met_snoc wanted calls c = ap (λ l. list_any (is_met wanted) (prefixes l)) (era-snoc calls c) ∙ was_met_if wanted (is_reset c) (era calls) c
