-- Laws: each poll is answered once or waits.
use Rattle.std.proofs.Common.{◌≡◌, ℕ, ◌+◌, ◌==◌, List, [], ◌∷◌, ◌++◌, map, filter_map, Bool, true, false, ◌||◌, cond, refl, sym, ap, ◌∙◌, arith, append_assoc, Option, Some, None}
use Rattle.std.specs.Prelude.{count_by}
use Rattle.std.specs.Option.{option_or, option_zip}
use Rattle.std.specs.List.{list_any, after_last, cons_option}
use Rattle.std.specs.Str.{bytes_eq}
use Rattle.std.proofs.lemmas.List.{append-nil, map-append}
use Rattle.std.proofs.lemmas.Bool.{true≢false}
use Rattle.std.proofs.lemmas.List.Sums.{sum_by-append, sum_by-cons, sum_by_push}
use Rattle.std.proofs.lemmas.List.Folds.{list_any-append}
use Rattle.std.proofs.lemmas.Slice.Eq.{bytes_eq-Decides}
use Rattle.env_phase.specs.declared.answer.PollAnswer.{PollAnswer}
use Rattle.env_phase.specs.declared.call.Party.{Party}
use Rattle.env_phase.specs.declared.call.Waiter.{Waiter}
use Rattle.env_phase.specs.declared.call.EnvCall.{EnvCall}
use Rattle.env_phase.specs.declared.call.EnvCall.TheVariants.{RuntimeNext, Register, ExtensionNext, Give, Answer, InitError, ExtensionError, Timeout, Shutdown}
use Rattle.env_phase.specs.Calls.{clears, runtime, extension, registration, has_identifier, is_known, slot_by}
use Rattle.env_phase.specs.Environment.{registered, parties, slot_of}
use Rattle.env_phase.specs.Polls.{refusal_of, IsLegal, replaced_by, waiter_of, answered, answered_by}
use Rattle.env_phase.specs.Slots.{polls_on, answers_to, is_slot, waits_on, answered_since, all_answers, polled, times_answered, waiting}
use Rattle.env_phase.specs.Steps.{slot_after, waiter_after, joined}
use Rattle.env_phase.specs.laws.Calls.{more, registered_snoc, slot_of_snoc}
use Rattle.env_phase.specs.laws.Accepted.{legally, legal_more, legal_nil}
use Rattle.env_phase.specs.laws.States.{extensions_snoc, asks_known, registers_unknown, clear_releases, registered_more}

-- ## Counts

abbrev one : Bool → ℕ
one b = cond b 1 0

count_append : {X : Type 0} (p : X → Bool) (xs ys : List X) → count_by p (xs ++ ys) ≡ count_by p xs + count_by p ys
count_append p xs ys = sum_by-append (λ x. one (p x)) xs ys

count_cons : {X : Type 0} (p : X → Bool) (x : X) (xs : List X) → count_by p (x ∷ xs) ≡ one (p x) + count_by p xs
count_cons p x xs = sum_by-cons (λ x. one (p x)) x xs

count_map : {X Y : Type 0} (p : Y → Bool) (f : X → Y) (xs : List X) → count_by p (map f xs) ≡ count_by (λ x. p (f x)) xs
count_map p f [] = refl
count_map p f (x ∷ xs) = omega (arith, count_cons p (f x) (map f xs), count_map p f xs, count_cons (λ x. p (f x)) x xs)

put_first : {Y : Type 0} (o : Option Y) (ys : List Y) → cons_option o ys ≡ more o ++ ys
put_first None ys = refl
put_first (Some y) ys = refl

filter_map_cons : {X Y : Type 0} (f : X → Option Y) (x : X) (xs : List X) → filter_map f (x ∷ xs) ≡ more (f x) ++ filter_map f xs
filter_map_cons f x xs = put_first (f x) (filter_map f xs)

-- ## One party

-- what it is answered on the slot, and whether it waits there afterwards
abbrev Balances : ℕ → EnvCall → Waiter → Type 0
Balances slot c w =
    count_by (answers_to slot) (more (answered c w)) + one (waits_on slot (waiter_after c w))
    ≡ one (waits_on slot w) + one (is_slot slot (slot_by w.party.identifier c))

by_a_next : (slot : ℕ) (own at : Option ℕ)
    → count_by (answers_to slot) (more (option_zip at (replaced_by own))) + one (is_slot slot (option_or own at)) ≡ one (is_slot slot at) + one (is_slot slot own)
by_a_next slot None None = refl
by_a_next slot None (Some at) = omega arith
by_a_next slot (Some own) None = refl
by_a_next slot (Some own) (Some at) = omega arith

by_an_answer : (slot : ℕ) (answer : PollAnswer) (at : Option ℕ)
    → count_by (answers_to slot) (more (option_zip at (Some answer))) + 0 ≡ one (is_slot slot at) + 0
by_an_answer slot answer None = refl
by_an_answer slot answer (Some at) = omega arith

by_nothing : (slot : ℕ) (at : Option ℕ) → count_by (answers_to slot) (more (option_zip at None)) + one (is_slot slot at) ≡ one (is_slot slot at) + 0
by_nothing slot None = refl
by_nothing slot (Some at) = omega arith

by_a_give : (slot : ℕ) (gets : Bool) (answer : PollAnswer) (at : Option ℕ)
    → count_by (answers_to slot) (more (option_zip at (cond gets (Some answer) None))) + one (is_slot slot (cond gets None at)) ≡ one (is_slot slot at) + 0
by_a_give slot true answer at = by_an_answer slot answer at
by_a_give slot false answer at = by_nothing slot at

balances : (slot : ℕ) (c : EnvCall) (w : Waiter) → Balances slot c w
balances slot (RuntimeNext own) w = by_a_next slot (slot_by w.party.identifier (RuntimeNext own)) w.slot
balances slot (Register identifier events end) w = by_nothing slot w.slot
balances slot (ExtensionNext identifier own) w = by_a_next slot (slot_by w.party.identifier (ExtensionNext identifier own)) w.slot
balances slot (Give id deadline) w = by_a_give slot w.party.gets_events _ w.slot
balances slot (Answer id) w = by_nothing slot w.slot
balances slot (InitError now) w = by_an_answer slot _ w.slot
balances slot (ExtensionError identifier in_init now) w = by_an_answer slot _ w.slot
balances slot (Timeout now) w = by_an_answer slot _ w.slot
balances slot (Shutdown now) w = by_an_answer slot _ w.slot

-- ## All parties

abbrev polled_by : ℕ → EnvCall → Option (List ℕ) → Bool
polled_by slot c own = is_slot slot (slot_by own c)

all_balance : (slot : ℕ) (c : EnvCall) (ws : List Waiter)
    → count_by (answers_to slot) (filter_map (answered c) ws) + count_by (waits_on slot) (map (waiter_after c) ws)
    ≡ count_by (waits_on slot) ws + count_by (λ (w : Waiter). polled_by slot c w.party.identifier) ws
all_balance slot c [] = refl
all_balance slot c (w ∷ ws) =
    omega (
      arith,
      all_balance slot c ws,
      balances slot c w,
      ap (count_by (answers_to slot)) (filter_map_cons (answered c) w ws),
      count_append (answers_to slot) (more (answered c w)) (filter_map (answered c) ws),
      count_cons (waits_on slot) (waiter_after c w) (map (waiter_after c) ws),
      count_cons (waits_on slot) w ws,
      count_cons (λ (w : Waiter). polled_by slot c w.party.identifier) w ws,
    )

-- ## Who polls by a call

-- no extension polls by a Next of the runtime
no_extension : (slot own : ℕ) (calls : List EnvCall) → count_by (λ (p : Party). polled_by slot (RuntimeNext own) p.identifier) (filter_map registration calls) ≡ 0
no_extension slot own [] = refl
no_extension slot own (Register identifier events end ∷ calls) =
    omega (
      arith,
      no_extension slot own calls,
      count_cons (λ (p : Party). polled_by slot (RuntimeNext own) p.identifier) (extension identifier events end) (filter_map registration calls),
    )
no_extension slot own (call ∷ calls) = no_extension slot own calls

one_if : (same : Bool) (own slot : ℕ) (has : Bool) → (slot == own) ≡ same → one (is_slot slot (cond has (Some own) None)) ≡ cond same (one has) 0
one_if true own slot true e = rw e refl
one_if false own slot true e = rw e refl
one_if true own slot false e = refl
one_if false own slot false e = refl

one_of : (slot own : ℕ) (identifier : List ℕ) (other : Option (List ℕ))
    → one (polled_by slot (ExtensionNext identifier own) other) ≡ cond (slot == own) (one (has_identifier identifier other)) 0
one_of slot own identifier other = one_if (slot == own) own slot (has_identifier identifier other) refl

cond_sum : (b : Bool) (m n : ℕ) → cond b m 0 + cond b n 0 ≡ cond b (m + n) 0
cond_sum true m n = refl
cond_sum false m n = refl

none_at : (b : Bool) → ◌≡◌ {A = ℕ} 0 (cond b 0 0)
none_at true = refl
none_at false = refl

-- by a Next of an extension those poll that have its identifier
those_with : (slot own : ℕ) (identifier : List ℕ) (ps : List Party)
    → count_by (λ (p : Party). polled_by slot (ExtensionNext identifier own) p.identifier) ps
    ≡ cond (slot == own) (count_by (λ (p : Party). has_identifier identifier p.identifier) ps) 0
those_with slot own identifier [] = none_at (slot == own)
those_with slot own identifier (p ∷ ps) =
    let later = those_with slot own identifier ps in
    let first = one_of slot own identifier p.identifier in
    let both = cond_sum (slot == own) (one (has_identifier identifier p.identifier)) (count_by (λ (p : Party). has_identifier identifier p.identifier) ps) in
    count_cons (λ (p : Party). polled_by slot (ExtensionNext identifier own) p.identifier) p ps
    ∙ ap (λ n. n + count_by (λ (p : Party). polled_by slot (ExtensionNext identifier own) p.identifier) ps) first
    ∙ ap (λ n. cond (slot == own) (one (has_identifier identifier p.identifier)) 0 + n) later
    ∙ both
    ∙ ap (λ n. cond (slot == own) n 0) (sym (count_cons (λ (p : Party). has_identifier identifier p.identifier) p ps))

-- ## An identifier is registered once

abbrev times_known : List EnvCall → List ℕ → ℕ
times_known calls identifier = count_by (λ (p : Party). has_identifier identifier p.identifier) (registered calls)

abbrev KnownOnce : List EnvCall → Type 0
KnownOnce calls = (identifier : List ℕ) → times_known calls identifier ≡ one (is_known identifier (registered calls))

nobody_known : KnownOnce []
unfolding registered
nobody_known identifier = refl

joins_once : (known same : Bool) (n : ℕ) → n ≡ one known → (same ≡ true → known ≡ false) → n + one same ≡ one (known || same)
joins_once true true n h fresh = absurd (true≢false (fresh refl))
joins_once true false n h fresh = omega (arith, h)
joins_once false true n h fresh = omega (arith, h)
joins_once false false n h fresh = omega (arith, h)

or_nothing : (b : Bool) → (b || false) ≡ b
or_nothing true = refl
or_nothing false = refl

any_last : {A : Type 0} (p : A → Bool) (xs : List A) (x : A) → list_any p (xs ++ x ∷ []) ≡ (list_any p xs || p x)
any_last p xs x = list_any-append p xs (x ∷ []) ∙ ap (λ b. list_any p xs || b) (or_nothing (p x))

count_last : {A : Type 0} (p : A → Bool) (xs : List A) (x : A) → count_by p (xs ++ x ∷ []) ≡ count_by p xs + one (p x)
count_last p xs x = sum_by_push (λ x. one (p x)) xs x

one_joins_once : (wanted : ℕ) (calls : List EnvCall) (identifier : List ℕ) (events end : Bool) → refusal_of wanted calls (Register identifier events end) ≡ None → KnownOnce calls → KnownOnce (calls ++ Register identifier events end ∷ [])
one_joins_once wanted calls identifier events end ok once other =
    let p = extension identifier events end in
    let has : Party → Bool = λ q. has_identifier other q.identifier in
    let longer : registered (calls ++ Register identifier events end ∷ []) ≡ registered calls ++ p ∷ [] = registered_more calls (Register identifier events end) refl in
    let fresh : bytes_eq other identifier ≡ true → is_known other (registered calls) ≡ false =
    λ e. rw ((bytes_eq-Decides other identifier).0 e) (registers_unknown wanted calls identifier events end ok) in
    ap (count_by has) longer ∙ count_last has (registered calls) p
    ∙ joins_once (is_known other (registered calls)) (bytes_eq other identifier) (times_known calls other) (once other) fresh
    ∙ ap one (sym (ap (list_any has) longer ∙ any_last has (registered calls) p))

none_joins : (calls : List EnvCall) (c : EnvCall) → clears c ≡ false → registration c ≡ None → KnownOnce calls → KnownOnce (calls ++ c ∷ [])
none_joins calls c stays nobody once identifier =
    let same : registered (calls ++ c ∷ []) ≡ registered calls = registered_more calls c stays ∙ rw nobody (append-nil (registered calls)) in
    rw same (once identifier)

all_leave : (calls : List EnvCall) (c : EnvCall) → clears c ≡ true → KnownOnce (calls ++ c ∷ [])
all_leave calls c clear identifier =
    let nobody : registered (calls ++ c ∷ []) ≡ [] = registered_snoc calls c ∙ rw clear refl in
    rw nobody refl

known_once_more : (wanted : ℕ) (calls : List EnvCall) (c : EnvCall) → refusal_of wanted calls c ≡ None → KnownOnce calls → KnownOnce (calls ++ c ∷ [])
known_once_more wanted calls (RuntimeNext slot) ok once = none_joins calls (RuntimeNext slot) refl refl once
known_once_more wanted calls (Register identifier events end) ok once = one_joins_once wanted calls identifier events end ok once
known_once_more wanted calls (ExtensionNext identifier slot) ok once = none_joins calls (ExtensionNext identifier slot) refl refl once
known_once_more wanted calls (Give id deadline) ok once = none_joins calls (Give id deadline) refl refl once
known_once_more wanted calls (Answer id) ok once = none_joins calls (Answer id) refl refl once
known_once_more wanted calls (InitError now) ok once = all_leave calls (InitError now) refl
known_once_more wanted calls (ExtensionError identifier in_init now) ok once = all_leave calls (ExtensionError identifier in_init now) refl
known_once_more wanted calls (Timeout now) ok once = all_leave calls (Timeout now) refl
known_once_more wanted calls (Shutdown now) ok once = all_leave calls (Shutdown now) refl

-- an extension that is registered is registered once
pub known_once : (wanted : ℕ) (calls : List EnvCall) → IsLegal wanted calls → KnownOnce calls
known_once wanted calls legal = legally wanted KnownOnce nobody_known (known_once_more wanted) calls legal

-- ## Who waits afterwards

none_wait : (slot : ℕ) (c : EnvCall) (ws : List Waiter) → clears c ≡ true → count_by (waits_on slot) (map (waiter_after c) ws) ≡ 0
none_wait slot c [] clear = refl
none_wait slot c (w ∷ ws) clear =
    let gone : slot_after c w.party w.slot ≡ None = rw (clear_releases w.party c clear) refl in
    count_cons (waits_on slot) (waiter_after c w) (map (waiter_after c) ws)
    ∙ ap (λ at. one (is_slot slot at) + count_by (waits_on slot) (map (waiter_after c) ws)) gone
    ∙ omega (arith, none_wait slot c ws clear)

who_joins_waits_not : (slot : ℕ) (c : EnvCall) → count_by (waits_on slot) (map (waiter_after c) (joined (registration c))) ≡ 0
who_joins_waits_not slot (Register identifier events end) = refl
who_joins_waits_not slot c = refl

waits_after : (slot : ℕ) (c : EnvCall) (b : Bool) (ws : List Waiter) → clears c ≡ b
    → count_by (waits_on slot) (map (waiter_after c) (cond b [] (ws ++ joined (registration c)))) ≡ count_by (waits_on slot) (map (waiter_after c) ws)
waits_after slot c true ws e = sym (none_wait slot c ws e)
waits_after slot c false ws e =
    ap (count_by (waits_on slot)) (map-append (waiter_after c) ws (joined (registration c)))
    ∙ count_append (waits_on slot) (map (waiter_after c) ws) (map (waiter_after c) (joined (registration c)))
    ∙ omega (arith, who_joins_waits_not slot c)

waiting_snoc : (wanted slot : ℕ) (calls : List EnvCall) (c : EnvCall) → IsLegal wanted calls → refusal_of wanted calls c ≡ None
    → waiting slot (calls ++ c ∷ []) ≡ count_by (waits_on slot) (map (waiter_after c) (map (waiter_of calls) (parties calls)))
waiting_snoc wanted slot calls c legal ok =
    let exts = map (waiter_of calls) (registered calls) in
    let r : waiter_of (calls ++ c ∷ []) runtime ≡ waiter_after c (waiter_of calls runtime) = rw (slot_of_snoc calls c runtime) refl in
    count_cons (waits_on slot) (waiter_of (calls ++ c ∷ []) runtime) (map (waiter_of (calls ++ c ∷ [])) (registered (calls ++ c ∷ [])))
    ∙ ap (λ w. one (waits_on slot w) + count_by (waits_on slot) (map (waiter_of (calls ++ c ∷ [])) (registered (calls ++ c ∷ [])))) r
    ∙ ap (λ ws. one (waits_on slot (waiter_after c (waiter_of calls runtime))) + count_by (waits_on slot) ws) (extensions_snoc wanted calls c legal ok)
    ∙ ap (λ n. one (waits_on slot (waiter_after c (waiter_of calls runtime))) + n) (waits_after slot c (clears c) exts refl)
    ∙ sym (count_cons (waits_on slot) (waiter_after c (waiter_of calls runtime)) (map (waiter_after c) exts))

-- ## All polls

no_extension_registered : (slot own : ℕ) (calls : List EnvCall) → count_by (λ (p : Party). polled_by slot (RuntimeNext own) p.identifier) (registered calls) ≡ 0
unfolding registered
no_extension_registered slot own calls = no_extension slot own (after_last clears calls)

nobody_polls : (ps : List Party) → count_by (λ (p : Party). false) ps ≡ 0
nobody_polls [] = refl
nobody_polls (p ∷ ps) = count_cons (λ (p : Party). false) p ps ∙ omega (arith, nobody_polls ps)

polled_by_call : (wanted slot : ℕ) (calls : List EnvCall) (c : EnvCall) → IsLegal wanted calls → refusal_of wanted calls c ≡ None
    → count_by (λ (p : Party). polled_by slot c p.identifier) (parties calls) ≡ one (polls_on slot c)
polled_by_call wanted slot calls (RuntimeNext own) legal ok =
    omega (arith, count_cons (λ (p : Party). polled_by slot (RuntimeNext own) p.identifier) runtime (registered calls), no_extension_registered slot own calls)
polled_by_call wanted slot calls (ExtensionNext identifier own) legal ok =
    let once : times_known calls identifier ≡ 1 = known_once wanted calls legal identifier ∙ ap one (asks_known wanted calls identifier own ok) in
    count_cons (λ (p : Party). polled_by slot (ExtensionNext identifier own) p.identifier) runtime (registered calls)
    ∙ omega (arith, those_with slot own identifier (registered calls) ∙ ap (λ n. cond (slot == own) n 0) once)
polled_by_call wanted slot calls c legal ok = nobody_polls (parties calls)

answered_more : (before calls : List EnvCall) (c : EnvCall) → answered_since before (calls ++ c ∷ []) ≡ answered_since before calls ++ answered_by (before ++ calls) c
answered_more before [] c = append-nil (answered_by before c) ∙ ap (λ l. answered_by l c) (sym (append-nil before))
answered_more before (call ∷ calls) c =
    ap (λ l. answered_by before call ++ l) (answered_more (before ++ call ∷ []) calls c)
    ∙ sym (append_assoc (answered_by before call) (answered_since (before ++ call ∷ []) calls) (answered_by ((before ++ call ∷ []) ++ calls) c))
    ∙ ap (λ l. (answered_by before call ++ answered_since (before ++ call ∷ []) calls) ++ answered_by l c) (append_assoc before (call ∷ []) calls)

abbrev Balanced : ℕ → List EnvCall → Type 0
Balanced slot calls = polled slot calls ≡ times_answered slot calls + waiting slot calls

abbrev KeptBalanced : ℕ → List EnvCall → Type 0
KeptBalanced wanted calls = IsLegal wanted calls × ((slot : ℕ) → Balanced slot calls)

answers_now : (slot : ℕ) (calls : List EnvCall) (c : EnvCall)
    → count_by (answers_to slot) (answered_by calls c) ≡ count_by (answers_to slot) (filter_map (answered c) (map (waiter_of calls) (parties calls)))
unfolding answered_by
answers_now slot calls c = refl

balanced_more : (wanted slot : ℕ) (calls : List EnvCall) (c : EnvCall) → IsLegal wanted calls → refusal_of wanted calls c ≡ None → Balanced slot calls → Balanced slot (calls ++ c ∷ [])
balanced_more wanted slot calls c legal ok before =
    let ws = map (waiter_of calls) (parties calls) in
    let polls : polled slot (calls ++ c ∷ []) ≡ polled slot calls + one (polls_on slot c) = count_last (polls_on slot) calls c in
    let answers : times_answered slot (calls ++ c ∷ []) ≡ times_answered slot calls + count_by (answers_to slot) (filter_map (answered c) ws) =
    ap (count_by (answers_to slot)) (answered_more [] calls c)
    ∙ count_append (answers_to slot) (all_answers calls) (answered_by calls c)
    ∙ ap (λ n. times_answered slot calls + n) (answers_now slot calls c) in
    let by : count_by (λ (w : Waiter). polled_by slot c w.party.identifier) ws ≡ one (polls_on slot c) =
    count_map (λ (w : Waiter). polled_by slot c w.party.identifier) (waiter_of calls) (parties calls) ∙ polled_by_call wanted slot calls c legal ok in
    omega (arith, polls, answers, by, before, all_balance slot c ws, waiting_snoc wanted slot calls c legal ok)

nothing_polled : (slot : ℕ) → Balanced slot []
unfolding registered slot_of
nothing_polled slot = refl

-- each poll that came on a slot was answered once, or waits
pub each_poll_is_answered_once_or_waits : (wanted : ℕ) (calls : List EnvCall) → IsLegal wanted calls → (slot : ℕ) → Balanced slot calls
each_poll_is_answered_once_or_waits wanted calls legal =
    (legally wanted (KeptBalanced wanted) (legal_nil wanted, nothing_polled)
    (λ calls c ok kept. (legal_more wanted calls c kept.0 ok, λ slot. balanced_more wanted slot calls c kept.0 ok (kept.1 slot)))
    calls legal).1
