-- Lemmas: what one command more at the end of a history changes in the life of an event and in what is held.
use Rattle.std.proofs.Common.{◌≡◌, ℕ, ◌+◌, ◌-◌, ◌≤◌, List, [], ◌∷◌, ◌++◌, length, Bool, true, false, not, ◌&&◌, ◌||◌, cond, refl, ap, ◌∙◌, arith, filter, length-append, take, drop, Option, Some, None, zero-add}
use Rattle.std.specs.List.{list_any, after_last, suffix_len, last_or, count_by}
use Rattle.std.proofs.lemmas.List.{reverse-append, drop-append-le}
use Rattle.std.proofs.lemmas.List.Folds.{list_any-append}
use Rattle.std.proofs.lemmas.List.Elements.{filter-append}
use Rattle.std.proofs.lemmas.List.Sums.{suffix_len-le-length, sum_by-append, sum_by-cons}
use Rattle.std.proofs.Math.ListN.{drop_of_length-le}
use Rattle.retry_rules.specs.declared.policy.RetryPolicy.{RetryPolicy}
use Rattle.retry_rules.specs.declared.settings.Settings.{Settings}
use Rattle.retry_rules.specs.Settings.{policy_of}
use Rattle.invoke_records.specs.declared.command.Command.{Command}
use Rattle.invoke_records.specs.declared.row.Answer.{Answer}
use Rattle.async_core.specs.Lives.{is_accept, is_failure, is_push_back, collects, accepts, names, life, push_backs, answer_by, answer_after, answer_of}
use Rattle.async_core.specs.Policies.{policy_by, last_policy, in_force, before_acceptance}
use Rattle.async_core.specs.History.{held_from, held, last_number, last_moment}

-- ## Lists

suffix_len-snoc : {X : Type 0} (p : X → Bool) (xs : List X) (c : X) → suffix_len p (xs ++ c ∷ []) ≡ cond (p c) (1 + suffix_len p xs) 0
suffix_len-snoc p xs c = rw (reverse-append xs (c ∷ [])) refl

after_snoc : {X : Type 0} (b : Bool) (k : ℕ) (xs : List X) (c : X) → k ≤ length xs
    → drop ((length xs + 1) - cond (not b) (1 + k) 0) (xs ++ c ∷ []) ≡ cond b [] (drop (length xs - k) xs ++ c ∷ [])
after_snoc true k xs c le = drop_of_length-le (xs ++ c ∷ []) (omega (arith, length-append xs (c ∷ [])))
after_snoc false k xs c le =
    let e : (length xs + 1) - (1 + k) ≡ length xs - k = omega arith in
    ap (λ n. drop n (xs ++ c ∷ [])) e ∙ drop-append-le (length xs - k) xs (c ∷ []) (omega arith)

pub after_last-snoc : {X : Type 0} (p : X → Bool) (xs : List X) (c : X) → after_last p (xs ++ c ∷ []) ≡ cond (p c) [] (after_last p xs ++ c ∷ [])
after_last-snoc p xs c =
    rw (length-append xs (c ∷ []), suffix_len-snoc (λ x. not (p x)) xs c) (after_snoc (p c) (suffix_len (λ x. not (p x)) xs) xs c (suffix_len-le-length (λ x. not (p x)) xs))

pub last_or-snoc : {X : Type 0} (o : Option X) (xs : List X) (c : X) → last_or o (xs ++ c ∷ []) ≡ Some c
last_or-snoc o [] c = refl
last_or-snoc o (x ∷ xs) c = last_or-snoc (Some x) xs c

pub count_by-snoc : {X : Type 0} (p : X → Bool) (xs : List X) (c : X) → count_by p (xs ++ c ∷ []) ≡ count_by p xs + cond (p c) 1 0
count_by-snoc p xs c = sum_by-append (λ x. cond (p x) 1 0) xs (c ∷ []) ∙ ap (λ k. count_by p xs + k) (zero-add (cond (p c) 1 0))

pub count_by-cons : {X : Type 0} (p : X → Bool) (x : X) (xs : List X) → count_by p (x ∷ xs) ≡ cond (p x) 1 0 + count_by p xs
count_by-cons p x xs = sum_by-cons (λ x. cond (p x) 1 0) x xs

filter_cond : {X : Type 0} (p : X → Bool) (b : Bool) (xs : List X) (c : X) → filter p (cond b [] (xs ++ c ∷ [])) ≡ cond b [] (filter p xs ++ cond (p c) (c ∷ []) [])
filter_cond p true xs c = refl
filter_cond p false xs c = filter-append p xs (c ∷ [])

-- what came before the event's last acceptance, with one command more in front or at the end
before_cons : (accepted later : Bool) (c : Command) (h before : List Command) → cond (later || (accepted || false)) (c ∷ cond accepted h before) [] ≡ cond accepted (c ∷ h) (cond later (c ∷ before) [])
before_cons true true c h before = refl
before_cons true false c h before = refl
before_cons false true c h before = refl
before_cons false false c h before = refl

no_commands : (b : Bool) → [] ≡ cond {A = List Command} b [] []
no_commands true = refl
no_commands false = refl

pub before_acceptance-snoc : (id : List ℕ) (h : List Command) (c : Command) → before_acceptance id (h ++ c ∷ []) ≡ cond (accepts id c) h (before_acceptance id h)
before_acceptance-snoc id [] c = no_commands (accepts id c)
before_acceptance-snoc id (x ∷ h) c =
    rw (list_any-append (accepts id) h (c ∷ []), before_acceptance-snoc id h c) (before_cons (accepts id c) (list_any (accepts id) h) x h (before_acceptance id h))

-- it is a front of the history
front_cons : (later : Bool) (c : Command) (h before : List Command) → before ≡ take (length before) h → cond later (c ∷ before) [] ≡ take (length (cond later (c ∷ before) [])) (c ∷ h)
front_cons true c h before is = ap (λ l. c ∷ l) is
front_cons false c h before is = refl

pub before_acceptance-front : (id : List ℕ) (h : List Command) → before_acceptance id h ≡ take (length (before_acceptance id h)) h
before_acceptance-front id [] = refl
before_acceptance-front id (c ∷ h) = front_cons (list_any (accepts id) h) c h (before_acceptance id h) (before_acceptance-front id h)

last_policy-snoc : (before : RetryPolicy) (h : List Command) (c : Command) → last_policy before (h ++ c ∷ []) ≡ policy_by (last_policy before h) c.kind
last_policy-snoc before [] c = refl
last_policy-snoc before (x ∷ h) c = last_policy-snoc (policy_by before x.kind) h c

pub in_force-snoc : (s : Settings) (h : List Command) (c : Command) → in_force s (h ++ c ∷ []) ≡ policy_by (in_force s h) c.kind
unfolding in_force
in_force-snoc s h c = last_policy-snoc (policy_of s) h c

pub in_force-nil : (s : Settings) → in_force s [] ≡ policy_of s
unfolding in_force
in_force-nil s = refl

-- ## Lives

-- the life of an event after one command more
pub life-snoc : (id : List ℕ) (h : List Command) (c : Command) → life id (h ++ c ∷ []) ≡ cond (collects id c) [] (life id h ++ cond (names id c) (c ∷ []) [])
unfolding life
life-snoc id h c = ap (filter (names id)) (after_last-snoc (collects id) h c) ∙ filter_cond (names id) (collects id c) _ c

pub life-nil : (id : List ℕ) → life id [] ≡ []
unfolding life
life-nil id = refl

pub last_number-snoc : (id : List ℕ) (h : List Command) (c : Command) → last_number id (h ++ c ∷ []) ≡ cond (names id c) (length h + 1) (last_number id h)
unfolding last_number
last_number-snoc id h c =
    rw (length-append h (c ∷ []), suffix_len-snoc (λ x. not (names id x)) h c) (numbered (names id c) (length h) (suffix_len (λ x. not (names id x)) h))
  where
    numbered : (b : Bool) (n k : ℕ) → (n + 1) - cond (not b) (1 + k) 0 ≡ cond b (n + 1) (n - k)
    numbered true n k = omega arith
    numbered false n k = omega arith

pub last_moment-snoc : (h : List Command) (c : Command) → last_moment (h ++ c ∷ []) ≡ c.time
last_moment-snoc h c = rw (last_or-snoc None h c) refl

pub push_backs-snoc : (l : List Command) (c : Command) → push_backs (l ++ c ∷ []) ≡ cond (is_failure c) 0 (push_backs l + cond (is_push_back c) 1 0)
push_backs-snoc l c = rw (after_last-snoc is_failure l c) (counted (is_failure c) (after_last is_failure l))
  where
    counted : (b : Bool) (xs : List Command) → count_by is_push_back (cond b [] (xs ++ c ∷ [])) ≡ cond b 0 (count_by is_push_back xs + cond (is_push_back c) 1 0)
    counted true xs = refl
    counted false xs = count_by-snoc is_push_back xs c

answer_after-snoc : (before : Answer) (l : List Command) (c : Command) → answer_after before (l ++ c ∷ []) ≡ answer_by (answer_after before l) c.kind c.bytes
answer_after-snoc before [] c = refl
answer_after-snoc before (x ∷ l) c = answer_after-snoc (answer_by before x.kind x.bytes) l c

pub answer_of-snoc : (l : List Command) (c : Command) → answer_of (l ++ c ∷ []) ≡ answer_by (answer_of l) c.kind c.bytes
answer_of-snoc l c = answer_after-snoc _ l c

-- ## What is held

-- one event more at the head of what is held
held_cons : (a b d : Bool) (n : ℕ) (id : List ℕ) (keep : ℕ × List ℕ → Bool) (rest more : List (ℕ × List ℕ)) → keep (n, id) ≡ not d
    → cond {A = List (ℕ × List ℕ)} (a && not (b || (d || false))) ((n, id) ∷ (filter keep rest ++ more)) (filter keep rest ++ more) ≡ filter keep (cond {A = List (ℕ × List ℕ)} (a && not b) ((n, id) ∷ rest) rest) ++ more
held_cons true true d n id keep rest more k = refl
held_cons true false true n id keep rest more k = rw k refl
held_cons true false false n id keep rest more k = rw k refl
held_cons false b d n id keep rest more k = refl

held_one : (a : Bool) (n m : ℕ) (id : List ℕ) → n ≡ m → cond {A = List (ℕ × List ℕ)} (a && true) ((n, id) ∷ []) [] ≡ cond {A = List (ℕ × List ℕ)} a ((m, id) ∷ []) []
held_one true n m id e = rw e refl
held_one false n m id e = refl

held_from-snoc : (n : ℕ) (h : List Command) (c : Command) → held_from n (h ++ c ∷ []) ≡ filter (λ (e : ℕ × List ℕ). not (collects e.1 c)) (held_from n h) ++ cond {A = List (ℕ × List ℕ)} (is_accept c) ((n + length h, c.id) ∷ []) []
held_from-snoc n [] c = held_one (is_accept c) n (n + 0) c.id (omega arith)
held_from-snoc n (x ∷ h) c =
    let place : (n + 1) + length h ≡ n + length (x ∷ h) = omega arith in
    rw (list_any-append (collects x.id) h (c ∷ []), held_from-snoc (n + 1) h c)
    (held_cons (is_accept x) (list_any (collects x.id) h) (collects x.id c) n x.id (λ e. not (collects e.1 c)) (held_from (n + 1) h) _ refl
    ∙ ap (λ k. filter (λ (e : ℕ × List ℕ). not (collects e.1 c)) (held_from n (x ∷ h)) ++ cond {A = List (ℕ × List ℕ)} (is_accept c) ((k, c.id) ∷ []) []) place)

-- what is held after one command more: what was, but for what it collects, and then what it accepts
pub held-snoc : (h : List Command) (c : Command) → held (h ++ c ∷ []) ≡ filter (λ (e : ℕ × List ℕ). not (collects e.1 c)) (held h) ++ cond {A = List (ℕ × List ℕ)} (is_accept c) ((length h + 1, c.id) ∷ []) []
unfolding held
held-snoc h c =
    let place : 1 + length h ≡ length h + 1 = omega arith in
    held_from-snoc 1 h c ∙ ap (λ k. filter (λ (e : ℕ × List ℕ). not (collects e.1 c)) (held_from 1 h) ++ cond {A = List (ℕ × List ℕ)} (is_accept c) ((k, c.id) ∷ []) []) place

pub held-nil : held [] ≡ []
unfolding held
held-nil = refl
