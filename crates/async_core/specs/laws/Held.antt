-- Lemmas: in a legal history an event is held, once, exactly where its life is not empty.
use Rattle.std.proofs.Common.{◌≡◌, ℕ, zero, suc, nat_lt, if◌then◌else◌, ◌+◌, ◌<◌, List, [], ◌∷◌, ◌++◌, length, take, drop, Bool, true, false, not, ◌&&◌, cond, refl, sym, ap, ◌∙◌, arith, filter, Some, None, append_assoc, subst}
use Rattle.std.specs.Prelude.{slice_get}
use Rattle.std.specs.List.{count_by}
use Rattle.std.specs.Str.{bytes_eq}
use Rattle.std.proofs.lemmas.Bool.{true≢false, and_parts}
use Rattle.std.proofs.lemmas.List.{append-nil, take-append-le, take-append-drop}
use Rattle.std.proofs.lemmas.List.Sums.{sum_by-append}
use Rattle.std.proofs.lemmas.Option.{slice_get_within}
use Rattle.std.proofs.lemmas.Slice.Eq.{bytes_eq-Decides}
use Rattle.std.proofs.lemmas.Bool.Decides.{same_from_decides, Decides-like}
use Rattle.std.proofs.Math.Seq.{take-append_seam}
use Rattle.retry_rules.specs.declared.settings.Settings.{Settings}
use Rattle.invoke_records.specs.declared.command.Command.{Command}
use Rattle.invoke_records.specs.declared.command.Kind.{Kind}
use Rattle.invoke_records.specs.declared.command.Kind.TheVariants.{Accept, Start, Succeed, Fail, Throttle, Interrupt, Expire, Collect, Configure}
use Rattle.async_core.specs.Lives.{kind_is_accept, kind_is_collect, kind_names, is_accept, names, collects, life, failures, push_backs}
use Rattle.invoke_records.specs.declared.row.Outcome.TheVariants.{RetriesExhausted}
use Rattle.invoke_records.specs.declared.row.Standing.TheVariants as standing
use Rattle.async_core.specs.Standings.{Rules, is_unknown, standing_by, after_failure}
use Rattle.async_core.specs.History.{held, standing_in, standing_of, rules_of, refusal_of, situation_of, IsLegal}
use Rattle.async_core.specs.laws.Lives.{life-snoc, life-nil, held-snoc, held-nil, last_or-snoc, count_by-cons}
use Rattle.async_core.specs.laws.Refusals.{presence}

-- ## Induction over the last command

snoc_from : (P : List Command → Type 0) → ((h : List Command) (c : Command) → P h → P (h ++ c ∷ [])) → (h later : List Command) → P h → P (h ++ later)
snoc_from P step h [] p = subst P (sym (append-nil h)) p
snoc_from P step h (c ∷ later) p = subst P (append_assoc h (c ∷ []) later) (snoc_from P step (h ++ c ∷ []) later (step h c p))

pub by_last : (P : List Command → Type 0) → P [] → ((h : List Command) (c : Command) → P h → P (h ++ c ∷ [])) → (h : List Command) → P h
by_last P none step h = snoc_from P step [] h none

pub slice_get-before : {X : Type 0} (xs ys : List X) (n : ℕ) → n < length xs → slice_get (xs ++ ys) n ≡ slice_get xs n
slice_get-before [] ys n lt = absurd (omega arith)
slice_get-before (x ∷ xs) ys zero lt = refl
slice_get-before (x ∷ xs) ys (suc n) lt = slice_get-before xs ys n (omega arith)

pub slice_get-seam : {X : Type 0} (xs : List X) (y : X) → slice_get (xs ++ y ∷ []) (length xs) ≡ Some y
slice_get-seam [] y = refl
slice_get-seam (x ∷ xs) y = slice_get-seam xs y

-- the front of a legal history is legal, and its last command after it
pub IsLegal-front : (s : Settings) (h later : List Command) → IsLegal s (h ++ later) → IsLegal s h
IsLegal-front s h later legal = record {
  each = λ n d found.
      let lt : n < length h = slice_get_within h n d found in
      let before : take n (h ++ later) ≡ take n h = take-append-le n h later (omega arith) in
      subst (λ front. refusal_of s front d ≡ None) before (legal.each n d (slice_get-before h later n lt ∙ found));
}

-- each front of a legal history is legal
pub IsLegal-take : (s : Settings) (h : List Command) (n : ℕ) → IsLegal s h → IsLegal s (take n h)
IsLegal-take s h n legal = IsLegal-front s (take n h) (drop n h) (subst (λ l. IsLegal s l) (sym (take-append-drop n h)) legal)

pub IsLegal-last : (s : Settings) (h : List Command) (c : Command) → IsLegal s (h ++ c ∷ []) → refusal_of s h c ≡ None
IsLegal-last s h c legal =
    subst (λ front. refusal_of s front c ≡ None) (take-append_seam h (c ∷ [])) (legal.each (length h) c (slice_get-seam h c))

pub legally : (s : Settings) (P : List Command → Type 0) → P [] → ((h : List Command) (c : Command) → IsLegal s h → refusal_of s h c ≡ None → P h → P (h ++ c ∷ [])) → (h : List Command) → IsLegal s h → P h
legally s P none step = by_last (λ h. IsLegal s h → P h) (λ _. none) (λ h c ih legal. step h c (IsLegal-front s h (c ∷ []) legal) (IsLegal-last s h c legal) (ih (IsLegal-front s h (c ∷ []) legal)))

-- ## Names

pub bytes_eq-sym : (a b : List ℕ) → bytes_eq a b ≡ bytes_eq b a
bytes_eq-sym a b = same_from_decides (bytes_eq a b) (bytes_eq b a) (bytes_eq-Decides a b) (Decides-like (bytes_eq b a) sym sym (bytes_eq-Decides b a))

pub bytes_eq-true : (a b : List ℕ) → bytes_eq a b ≡ true → a ≡ b
bytes_eq-true a b h = (bytes_eq-Decides a b).0 h

pub bytes_eq-refl : (a : List ℕ) → bytes_eq a a ≡ true
bytes_eq-refl a = (bytes_eq-Decides a a).1 refl

-- what a command names
pub named_id : (id : List ℕ) (c : Command) → names id c ≡ true → id ≡ c.id
named_id id c named = bytes_eq-true id c.id (and_parts (kind_names c.kind) (bytes_eq id c.id) named).1

pub named_kind : (id : List ℕ) (c : Command) → names id c ≡ true → kind_names c.kind ≡ true
named_kind id c named = (and_parts (kind_names c.kind) (bytes_eq id c.id) named).0

-- another id is not named
pub unnamed : (id : List ℕ) (c : Command) → bytes_eq id c.id ≡ false → names id c ≡ false
unnamed id c apart = neither (kind_names c.kind) (bytes_eq id c.id) apart
  where
    neither : (a b : Bool) → b ≡ false → (a && b) ≡ false
    neither true b h = h
    neither false b h = refl

-- and this one is, if the command is of an event
pub named_by : (id : List ℕ) (c : Command) → kind_names c.kind ≡ true → bytes_eq id c.id ≡ true → names id c ≡ true
named_by id c event same = rw event same

-- ## Known events

abbrev pub size : List Command → ℕ
size [] = 0
size (c ∷ commands) = 1

abbrev pub is_nil : List Command → Bool
is_nil [] = true
is_nil (c ∷ commands) = false

known_by : (rules : Rules) (failures push_backs : ℕ) (c : Command) (k : Kind) → kind_is_collect k ≡ false → kind_names k ≡ true → is_unknown (standing_by rules failures push_backs c k) ≡ false
known_by rules failures push_backs c Accept h n = refl
known_by rules failures push_backs c Start h n = refl
known_by rules failures push_backs c Succeed h n = refl
known_by rules failures push_backs c (Fail cause) h n = failed_by (nat_lt rules.retries failures)
  where
    failed_by : (b : Bool) → is_unknown (if b then standing.Ended RetriesExhausted c.time else standing.DueAgain (c.time + after_failure failures)) ≡ false
    failed_by true = refl
    failed_by false = refl
known_by rules failures push_backs c Throttle h n = refl
known_by rules failures push_backs c Interrupt h n = refl
known_by rules failures push_backs c Expire h n = refl
known_by rules failures push_backs c Collect h n = absurd (true≢false h)
known_by rules failures push_backs c (Configure policy) h n = absurd (true≢false (sym n))

and_false : (b : Bool) → (b && true) ≡ false → b ≡ false
and_false true h = h
and_false false h = refl

is_nil-snoc : (l : List Command) (c : Command) → is_nil (l ++ c ∷ []) ≡ false
is_nil-snoc [] c = refl
is_nil-snoc (x ∷ l) c = refl

life_unknown : (rules : Rules) (h : List Command) (id : List ℕ) → is_unknown (standing_of rules (life id h)) ≡ is_nil (life id h)
life_unknown rules h id = by_last (λ h. is_unknown (standing_of rules (life id h)) ≡ is_nil (life id h)) (rw life-nil refl) step h
  where
    longer : (collected named : Bool) (l : List Command) (c : Command) → collected ≡ (kind_is_collect c.kind && named) → (named ≡ true → kind_names c.kind ≡ true) → is_unknown (standing_of rules l) ≡ is_nil l
        → is_unknown (standing_of rules (cond collected [] (l ++ cond named (c ∷ []) []))) ≡ is_nil (cond collected [] (l ++ cond named (c ∷ []) []))
    longer true named l c e k ih = refl
    longer false false l c e k ih = rw append-nil ih
    longer false true l c e k ih = rw (last_or-snoc None l c) (known_by rules (failures (l ++ c ∷ [])) (push_backs (l ++ c ∷ [])) c c.kind (and_false (kind_is_collect c.kind) (sym e)) (k refl) ∙ sym (is_nil-snoc l c))

    step : (h : List Command) (c : Command) → is_unknown (standing_of rules (life id h)) ≡ is_nil (life id h) → is_unknown (standing_of rules (life id (h ++ c ∷ []))) ≡ is_nil (life id (h ++ c ∷ []))
    step h c ih = rw (life-snoc id h c) (longer (collects id c) (names id c) (life id h) c refl (named_kind id c) ih)

-- an event is unknown exactly where its life is empty
pub unknown-nil : (s : Settings) (h : List Command) (id : List ℕ) → is_unknown (standing_in s h id) ≡ is_nil (life id h)
unfolding standing_in
unknown-nil s h id = life_unknown (rules_of s h id) h id

-- ## Held once

count_by-cond : {X : Type 0} (q : X → Bool) (kept : Bool) (x : X) (xs : List X) → count_by q (cond kept (x ∷ xs) xs) ≡ cond kept (cond (q x) 1 0) 0 + count_by q xs
count_by-cond q true x xs = count_by-cons q x xs
count_by-cond q false x xs = omega arith

counted : (b here kept : Bool) (m n : ℕ) → (here ≡ true → kept ≡ b) → m ≡ cond b n 0 → cond kept (cond here 1 0) 0 + m ≡ cond b (cond here 1 0 + n) 0
counted true true true m n h e = omega arith
counted true true false m n h e = absurd (true≢false (sym (h refl)))
counted true false true m n h e = omega arith
counted true false false m n h e = omega arith
counted false true true m n h e = absurd (true≢false (h refl))
counted false true false m n h e = omega arith
counted false false true m n h e = omega arith
counted false false false m n h e = omega arith

pub count_filtered : {X : Type 0} (q keep : X → Bool) (b : Bool) → ((x : X) → q x ≡ true → keep x ≡ b) → (xs : List X) → count_by q (filter keep xs) ≡ cond b (count_by q xs) 0
count_filtered q keep true h [] = refl
count_filtered q keep false h [] = refl
count_filtered q keep b h (x ∷ xs) =
    count_by-cond q (keep x) x (filter keep xs)
    ∙ counted b (q x) (keep x) (count_by q (filter keep xs)) (count_by q xs) (h x) (count_filtered q keep b h xs)
    ∙ ap (λ n. cond b n 0) (sym (count_by-cons q x xs))

-- how often an event is held
abbrev pub times_held : List ℕ → List (ℕ × List ℕ) → ℕ
times_held id events = count_by (λ (e : ℕ × List ℕ). bytes_eq id e.1) events

collects_same : (a b : List ℕ) (c : Command) → bytes_eq a b ≡ true → not (collects b c) ≡ not (collects a c)
collects_same a b c h = rw (bytes_eq-true a b h) refl

times_held-new : (accepts : Bool) (n : ℕ) (id new : List ℕ) → times_held id (cond {A = List (ℕ × List ℕ)} accepts ((n, new) ∷ []) []) ≡ cond (accepts && bytes_eq id new) 1 0
times_held-new true n id new = omega arith
times_held-new false n id new = refl

added : {a b m n : ℕ} → a ≡ b → m ≡ n → a + m ≡ b + n
added p q = rw (p, q) refl

-- an Accept names its event
accept_names : (k : Kind) (b : Bool) → (kind_is_accept k && b) ≡ (kind_is_accept k && (kind_names k && b))
accept_names Accept b = refl
accept_names Start b = refl
accept_names Succeed b = refl
accept_names (Fail cause) b = refl
accept_names Throttle b = refl
accept_names Interrupt b = refl
accept_names Expire b = refl
accept_names Collect b = refl
accept_names (Configure policy) b = refl

pub times_held-snoc : (id : List ℕ) (h : List Command) (c : Command) → times_held id (held (h ++ c ∷ [])) ≡ cond (not (collects id c)) (times_held id (held h)) 0 + cond (is_accept c && names id c) 1 0
times_held-snoc id h c =
    ap (times_held id) (held-snoc h c)
    ∙ sum_by-append (λ (e : ℕ × List ℕ). cond (bytes_eq id e.1) 1 0) (filter (λ (e : ℕ × List ℕ). not (collects e.1 c)) (held h)) _
    ∙ added (count_filtered (λ (e : ℕ × List ℕ). bytes_eq id e.1) (λ (e : ℕ × List ℕ). not (collects e.1 c)) (not (collects id c)) (λ e same. collects_same id e.1 c same) (held h)) (times_held-new (is_accept c) (length h + 1) id c.id ∙ ap (λ b. cond b 1 0) (accept_names c.kind (bytes_eq id c.id)))

size-snoc : (l : List Command) (c : Command) → size (l ++ c ∷ []) ≡ 1
size-snoc [] c = refl
size-snoc (x ∷ l) c = refl

-- the event that an Accept names was not held, and that of any other command was
pub nil_before : (s : Settings) (h : List Command) (c : Command) → refusal_of s h c ≡ None → (id : List ℕ) → names id c ≡ true → is_nil (life id h) ≡ is_accept c
unfolding refusal_of
nil_before s h c passes id named =
    subst (λ a. is_nil (life a h) ≡ is_accept c) (sym (named_id id c named))
    (sym (unknown-nil s h c.id) ∙ presence s (situation_of s h c) c (named_kind id c named) passes)

not_both : (k : Kind) → (kind_is_accept k && kind_is_collect k) ≡ false
not_both Accept = refl
not_both Start = refl
not_both Succeed = refl
not_both (Fail cause) = refl
not_both Throttle = refl
not_both Interrupt = refl
not_both Expire = refl
not_both Collect = refl
not_both (Configure policy) = refl

grown : (accepts collecting named : Bool) (n : ℕ) (l : List Command) (c : Command) → (accepts && collecting) ≡ false → (named ≡ true → is_nil l ≡ accepts) → n ≡ size l
    → cond (not (collecting && named)) n 0 + cond (accepts && named) 1 0 ≡ size (cond (collecting && named) [] (l ++ cond named (c ∷ []) []))
grown true true named n l c one known e = absurd (true≢false one)
grown false true true n l c one known e = refl
grown false true false n l c one known e = rw append-nil (omega arith)
grown true false true n [] c one known e = omega arith
grown true false true n (x ∷ l) c one known e = absurd (true≢false (sym (known refl)))
grown true false false n l c one known e = rw append-nil (omega arith)
grown false false true n [] c one known e = absurd (true≢false (known refl))
grown false false true n (x ∷ l) c one known e = omega arith
grown false false false n l c one known e = rw append-nil (omega arith)

pub held_once : (s : Settings) (h : List Command) → IsLegal s h → (id : List ℕ) → times_held id (held h) ≡ size (life id h)
held_once s h legal id = legally s (λ h. times_held id (held h) ≡ size (life id h)) (rw (held-nil, life-nil) refl)
    (λ h c _ passes ih. times_held-snoc id h c ∙ grown (is_accept c) (kind_is_collect c.kind) (names id c) (times_held id (held h)) (life id h) c (not_both c.kind) (nil_before s h c passes id) ih ∙ ap size (sym (life-snoc id h c))) h legal
