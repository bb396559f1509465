-- Laws: what a body keeps, one call at a time, is what the calls leave.
use Rattle.std.proofs.Common.{◌≡◌, ℕ, List, [], ◌∷◌, ◌++◌, map, Bool, true, false, not, ◌&&◌, ◌||◌, cond, refl, sym, ap, ◌∙◌, Option, Some, None, ◌⊎◌, inl, inr}
use Rattle.std.specs.Prelude.{nat_le, length}
use Rattle.std.specs.Option.{option_or}
use Rattle.std.specs.List.{list_any, list_all}
use Rattle.std.specs.Str.{bytes_eq}
use Rattle.std.proofs.lemmas.List.{map-append, length-map}
use Rattle.std.proofs.lemmas.Option.{none-some}
use Rattle.std.proofs.lemmas.Bool.{true≢false}
use Rattle.std.proofs.lemmas.Slice.Eq.{bytes_eq-Decides}
use Rattle.std.proofs.lemmas.List.Folds.{list_any-append}
use Rattle.env_phase.specs.declared.call.Party.{Party}
use Rattle.env_phase.specs.declared.call.EnvCall.{EnvCall}
use Rattle.env_phase.specs.declared.call.EnvCall.TheVariants.{Register, ExtensionNext, Give}
use Rattle.env_phase.specs.declared.refusal.Refusal.{Refusal}
use Rattle.env_phase.specs.declared.refusal.Refusal.TheVariants as refusal
use Rattle.env_phase.specs.Calls.{is_reset, is_shutdown, clears, runtime, extension, registration, has_identifier, is_known, releases, slot_by}
use Rattle.env_phase.specs.Environment.{era, registered, slot_of, unanswered, is_parked, is_met, was_met, knows, phase_of, phase_by, phase_is_init, phase_is_ready, phase_is_closing, is_ready, running}
use Rattle.env_phase.specs.Polls.{first_failed, checks, refusal_of, IsLegal, waiter_of, answered_by}
use Rattle.env_phase.specs.State.{EnvState, state_of, StandsFor, IsAccepted}
use Rattle.env_phase.specs.Steps.{is_parked_at, is_met_in, phase_in, party_at, refusal_in, answered_in, is_ready_in, waiter_after, joined, extensions_after, moved, has_met_after, state_after}
use Rattle.env_phase.specs.laws.Calls.{more, era-snoc, registered_snoc, slot_of_snoc, unanswered_snoc}
use Rattle.env_phase.specs.laws.Eras.{is_met_era, none_was_met, was_met_snoc}
use Rattle.env_phase.specs.laws.Accepted.{legally, legal_more, legal_nil}

-- ## By what is kept

parties_kept : (calls : List EnvCall) (ps : List Party) → map party_at (map (waiter_of calls) ps) ≡ ps
parties_kept calls [] = refl
parties_kept calls (p ∷ ps) = ap (λ l. p ∷ l) (parties_kept calls ps)

parked_kept : (calls : List EnvCall) (ps : List Party) → list_all is_parked_at (map (waiter_of calls) ps) ≡ list_all (is_parked calls) ps
parked_kept calls [] = refl
parked_kept calls (p ∷ ps) = ap (λ b. is_parked calls p && b) (parked_kept calls ps)

pub met_kept : (wanted number : ℕ) (calls : List EnvCall) → is_met_in (state_of wanted number calls) ≡ is_met wanted calls
unfolding state_of is_met
met_kept wanted number calls = rw (parked_kept calls (registered calls), length-map (registered calls) (waiter_of calls)) refl

phase_with : (wanted number : ℕ) (calls : List EnvCall) → is_met_in (state_of wanted number calls) ≡ is_met wanted calls → phase_in (state_of wanted number calls) ≡ phase_by (list_any is_shutdown calls) (is_met wanted (era calls)) (was_met wanted calls)
unfolding state_of
phase_with wanted number calls met = ap (λ b. phase_by (list_any is_shutdown calls) b (was_met wanted calls)) (met ∙ sym (is_met_era wanted calls))

pub phase_kept : (wanted number : ℕ) (calls : List EnvCall) → phase_in (state_of wanted number calls) ≡ phase_of wanted calls
unfolding phase_of
phase_kept wanted number calls = phase_with wanted number calls (met_kept wanted number calls)

refusal_with : (wanted number : ℕ) (calls : List EnvCall) (call : EnvCall) → phase_in (state_of wanted number calls) ≡ phase_of wanted calls
    → refusal_in (state_of wanted number calls) call ≡ first_failed (checks (phase_of wanted calls) (unanswered calls) (registered calls) call)
unfolding state_of
refusal_with wanted number calls call phase = rw (phase, parties_kept calls (registered calls)) refl

pub refusal_kept : (wanted number : ℕ) (calls : List EnvCall) (call : EnvCall) → refusal_in (state_of wanted number calls) call ≡ refusal_of wanted calls call
unfolding refusal_of
refusal_kept wanted number calls call = refusal_with wanted number calls call (phase_kept wanted number calls)

pub answered_kept : (wanted number : ℕ) (calls : List EnvCall) (call : EnvCall) → answered_in (state_of wanted number calls) call ≡ answered_by calls call
unfolding state_of answered_by
answered_kept wanted number calls call = refl

-- ## Who registers is not parked yet

not_left : (a b : Bool) → (a || b) ≡ false → a ≡ false
not_left true b h = absurd (true≢false h)
not_left false b h = refl

pub registered_more : (calls : List EnvCall) (c : EnvCall) → clears c ≡ false → registered (calls ++ c ∷ []) ≡ registered calls ++ more (registration c)
registered_more calls c stays = registered_snoc calls c ∙ rw stays refl

known_before : (calls : List EnvCall) (c : EnvCall) (identifier : List ℕ) → clears c ≡ false → is_known identifier (registered (calls ++ c ∷ [])) ≡ false → is_known identifier (registered calls) ≡ false
known_before calls c identifier stays unknown =
    not_left (is_known identifier (registered calls)) (is_known identifier (more (registration c)))
    (sym (list_any-append (λ (party : Party). has_identifier identifier party.identifier) (registered calls) (more (registration c)))
    ∙ ap (is_known identifier) (sym (registered_more calls c stays)) ∙ unknown)

pub clear_releases : (party : Party) (c : EnvCall) → clears c ≡ true → releases party c ≡ true
clear_releases party (Give id deadline) h = absurd (true≢false (sym h))
clear_releases party c h = h

first_of_two : (a b : Bool) (why other : Refusal) → first_failed ((not a, why) ∷ (b, other) ∷ []) ≡ None → a ≡ true
first_of_two true b why other h = refl
first_of_two false b why other h = absurd (none-some why (sym h))

last_of_three : (a b c : Bool) (why other last : Refusal) → first_failed ((a, why) ∷ (b, other) ∷ (c, last) ∷ []) ≡ None → c ≡ false
last_of_three a b false why other last h = refl
last_of_three true b true why other last h = absurd (none-some why (sym h))
last_of_three false true true why other last h = absurd (none-some other (sym h))
last_of_three false false true why other last h = absurd (none-some last (sym h))

pub asks_known : (wanted : ℕ) (calls : List EnvCall) (identifier : List ℕ) (slot : ℕ) → refusal_of wanted calls (ExtensionNext identifier slot) ≡ None → is_known identifier (registered calls) ≡ true
unfolding refusal_of
asks_known wanted calls identifier slot ok = first_of_two (knows calls identifier) (phase_is_closing (phase_of wanted calls)) refusal.UnknownExtension refusal.WrongPhase ok

if_equal : (identifier own : List ℕ) (slot : ℕ) (b : Bool) → bytes_eq identifier own ≡ b → (identifier ≡ own → ⊥) → cond b (Some slot) None ≡ None
if_equal identifier own slot true e differ = absurd (differ ((bytes_eq-Decides identifier own).0 e))
if_equal identifier own slot false e differ = refl

-- a Next that is accepted is of an extension that is known
no_slot : (wanted : ℕ) (calls : List EnvCall) (c : EnvCall) (own : List ℕ) → refusal_of wanted calls c ≡ None → is_known own (registered calls) ≡ false → slot_by (Some own) c ≡ None
no_slot wanted calls (ExtensionNext identifier slot) own ok unknown =
    if_equal identifier own slot (bytes_eq identifier own) refl
    (λ same. true≢false (sym (asks_known wanted calls identifier slot ok) ∙ ap (λ i. is_known i (registered calls)) same ∙ unknown))
no_slot wanted calls c own ok unknown = refl

abbrev UnknownWaitNowhere : List EnvCall → Type 0
UnknownWaitNowhere calls = (identifier : List ℕ) (events end : Bool) → is_known identifier (registered calls) ≡ false → slot_of calls (extension identifier events end) ≡ None

nothing_yet : UnknownWaitNowhere []
unfolding slot_of
nothing_yet identifier events end unknown = refl

either : (b : Bool) → (b ≡ true) ⊎ (b ≡ false)
either true = inl refl
either false = inr refl

cond_none : (b : Bool) (o : Option ℕ) → o ≡ None → cond b None o ≡ None
cond_none true o h = refl
cond_none false o h = h

nowhere_if : (wanted : ℕ) (calls : List EnvCall) (c : EnvCall) → refusal_of wanted calls c ≡ None → UnknownWaitNowhere calls → (identifier : List ℕ) (events end : Bool)
    → is_known identifier (registered (calls ++ c ∷ [])) ≡ false → (clears c ≡ true) ⊎ (clears c ≡ false)
    → cond (releases (extension identifier events end) c) None (option_or (slot_by (Some identifier) c) (slot_of calls (extension identifier events end))) ≡ None
nowhere_if wanted calls c ok before identifier events end unknown (inl clear) = rw (clear_releases (extension identifier events end) c clear) refl
nowhere_if wanted calls c ok before identifier events end unknown (inr stays) =
    let first : is_known identifier (registered calls) ≡ false = known_before calls c identifier stays unknown in
    cond_none (releases (extension identifier events end) c) _ (rw (no_slot wanted calls c identifier ok first) (before identifier events end first))

still_nowhere : (wanted : ℕ) (calls : List EnvCall) (c : EnvCall) → refusal_of wanted calls c ≡ None → UnknownWaitNowhere calls → UnknownWaitNowhere (calls ++ c ∷ [])
still_nowhere wanted calls c ok before identifier events end unknown =
    slot_of_snoc calls c (extension identifier events end) ∙ nowhere_if wanted calls c ok before identifier events end unknown (either (clears c))

-- an extension that is not registered waits nowhere
pub unknown_wait_nowhere : (wanted : ℕ) (calls : List EnvCall) → IsLegal wanted calls → UnknownWaitNowhere calls
unknown_wait_nowhere wanted calls legal = legally wanted UnknownWaitNowhere nothing_yet (still_nowhere wanted) calls legal

-- ## One call more

waiters_snoc : (calls : List EnvCall) (c : EnvCall) (ps : List Party) → map (waiter_of (calls ++ c ∷ [])) ps ≡ map (waiter_after c) (map (waiter_of calls) ps)
waiters_snoc calls c [] = refl
waiters_snoc calls c (p ∷ ps) = rw (slot_of_snoc calls c p, waiters_snoc calls c ps) refl

one_joins : (calls : List EnvCall) (o : Option Party) → ((party : Party) → o ≡ Some party → slot_of calls party ≡ None) → map (waiter_of calls) (more o) ≡ joined o
one_joins calls None fresh = refl
one_joins calls (Some party) fresh = rw (fresh party refl) refl

pub registers_unknown : (wanted : ℕ) (calls : List EnvCall) (identifier : List ℕ) (events end : Bool) → refusal_of wanted calls (Register identifier events end) ≡ None → is_known identifier (registered calls) ≡ false
unfolding refusal_of
registers_unknown wanted calls identifier events end ok =
    last_of_three (not (phase_is_init (phase_of wanted calls))) (nat_le 10 (length (registered calls))) (knows calls identifier)
    refusal.RegistrationClosed refusal.TooManyExtensions refusal.InUse ok

same_party : (p q : Party) → Some p ≡ Some q → p ≡ q
same_party p q h = cc

who_joins_is_fresh : (wanted : ℕ) (calls : List EnvCall) (c : EnvCall) → IsLegal wanted calls → refusal_of wanted calls c ≡ None → (party : Party) → registration c ≡ Some party → slot_of calls party ≡ None
who_joins_is_fresh wanted calls (Register identifier events end) legal ok party h =
    ap (slot_of calls) (sym (same_party (extension identifier events end) party h))
    ∙ unknown_wait_nowhere wanted calls legal identifier events end (registers_unknown wanted calls identifier events end ok)
who_joins_is_fresh wanted calls c legal ok party h = absurd (none-some party h)

cond_map : {A B : Type 0} (f : A → B) (b : Bool) (x y : A) → f (cond b x y) ≡ cond b (f x) (f y)
cond_map f true x y = refl
cond_map f false x y = refl

pub extensions_snoc : (wanted : ℕ) (calls : List EnvCall) (c : EnvCall) → IsLegal wanted calls → refusal_of wanted calls c ≡ None
    → map (waiter_of (calls ++ c ∷ [])) (registered (calls ++ c ∷ [])) ≡ extensions_after c (map (waiter_of calls) (registered calls))
extensions_snoc wanted calls c legal ok =
    let joins = one_joins calls (registration c) (who_joins_is_fresh wanted calls c legal ok) in
    waiters_snoc calls c (registered (calls ++ c ∷ []))
    ∙ ap (λ l. map (waiter_after c) (map (waiter_of calls) l)) (registered_snoc calls c)
    ∙ ap (map (waiter_after c))
    (cond_map (map (waiter_of calls)) (clears c) [] (registered calls ++ more (registration c))
    ∙ ap (cond (clears c) []) (map-append (waiter_of calls) (registered calls) (more (registration c)) ∙ ap (λ l. map (waiter_of calls) (registered calls) ++ l) joins))

or-false : (b : Bool) → (b || false) ≡ b
or-false true = refl
or-false false = refl

any_snoc : {A : Type 0} (p : A → Bool) (xs : List A) (x : A) → list_any p (xs ++ x ∷ []) ≡ (list_any p xs || p x)
any_snoc p xs x = list_any-append p xs (x ∷ []) ∙ ap (λ b. list_any p xs || b) (or-false (p x))

-- all but whether the era was met
moved_snoc : (wanted number : ℕ) (calls : List EnvCall) (c : EnvCall) → IsLegal wanted calls → refusal_of wanted calls c ≡ None
    → state_of wanted number (calls ++ c ∷ []) ≡ record (moved (state_of wanted number calls) c) { has_met = was_met wanted (calls ++ c ∷ []) }
unfolding state_of
moved_snoc wanted number calls c legal ok =
    rw (any_snoc is_shutdown calls c, unanswered_snoc calls c, slot_of_snoc calls c runtime, extensions_snoc wanted calls c legal ok) refl

met_after : (b : Bool) (wanted number : ℕ) (calls : List EnvCall) (c : EnvCall) → is_reset c ≡ b → is_met_in (moved (state_of wanted number calls) c) ≡ is_met wanted (calls ++ c ∷ [])
    → cond b false (was_met wanted calls || is_met wanted (era calls ++ c ∷ [])) ≡ cond b false (was_met wanted calls || is_met_in (moved (state_of wanted number calls) c))
met_after true wanted number calls c e same = refl
met_after false wanted number calls c e same =
    ap (λ b. was_met wanted calls || b)
    (ap (is_met wanted) (sym (era-snoc calls c ∙ rw e refl)) ∙ is_met_era wanted (calls ++ c ∷ []) ∙ sym same)

kept_before : (wanted number : ℕ) (calls : List EnvCall) (c : EnvCall)
    → cond (is_reset c) false (was_met wanted calls || is_met_in (moved (state_of wanted number calls) c)) ≡ has_met_after c (moved (state_of wanted number calls) c)
unfolding state_of
kept_before wanted number calls c = refl

has_met_snoc : (wanted number : ℕ) (calls : List EnvCall) (c : EnvCall) → IsLegal wanted calls → refusal_of wanted calls c ≡ None
    → was_met wanted (calls ++ c ∷ []) ≡ has_met_after c (moved (state_of wanted number calls) c)
has_met_snoc wanted number calls c legal ok =
    was_met_snoc wanted calls c
    ∙ met_after (is_reset c) wanted number calls c refl (ap is_met_in (sym (moved_snoc wanted number calls c legal ok)) ∙ met_kept wanted number (calls ++ c ∷ []))
    ∙ kept_before wanted number calls c

-- what is kept of a call that is accepted is what the calls with it leave
pub state_snoc : (wanted number : ℕ) (calls : List EnvCall) (c : EnvCall) → IsLegal wanted calls → refusal_of wanted calls c ≡ None
    → state_of wanted number (calls ++ c ∷ []) ≡ state_after (state_of wanted number calls) c
state_snoc wanted number calls c legal ok =
    moved_snoc wanted number calls c legal ok
    ∙ ap (λ b. record (moved (state_of wanted number calls) c) { has_met = b }) (has_met_snoc wanted number calls c legal ok)

-- ## The calls of an environment that stands for a list

pub is_refused : (e : EnvState) (calls : List EnvCall) (c : EnvCall) → StandsFor e calls → refusal_of e.wanted calls c ≡ refusal_in e c
is_refused e calls c stands = sym (ap (λ s. refusal_in s c) stands.1 ∙ refusal_kept e.wanted e.number calls c)

pub is_accepted : (e : EnvState) (calls : List EnvCall) (c : EnvCall) → StandsFor e calls → refusal_in e c ≡ None → IsAccepted calls c (state_after e c) (answered_in e c)
is_accepted e calls c stands passes =
    let ok : refusal_of e.wanted calls c ≡ None = is_refused e calls c stands ∙ passes in
    let after : state_after e c ≡ state_of e.wanted e.number (calls ++ c ∷ []) = ap (λ s. state_after s c) stands.1 ∙ sym (state_snoc e.wanted e.number calls c stands.0 ok) in
    let polls : answered_in e c ≡ answered_by calls c = ap (λ s. answered_in s c) stands.1 ∙ answered_kept e.wanted e.number calls c in
    (ok, (legal_more e.wanted calls c stands.0 ok, after), polls)

-- an environment in which nobody has asked for anything
abbrev pub first : ℕ → ℕ → Bool → EnvState
first wanted number met = record {
  number = number;
  wanted = wanted;
  is_shut = false;
  has_met = met;
  event = None;
  runtime_slot = None;
  extensions = [];
}

as_nobody_left_it : (wanted number : ℕ) → first wanted number (was_met wanted []) ≡ state_of wanted number []
unfolding state_of registered slot_of unanswered
as_nobody_left_it wanted number = refl

pub first_state : (wanted number : ℕ) → StandsFor (first wanted number false) []
first_state wanted number =
    (legal_nil wanted, ap (first wanted number) (sym (none_was_met wanted)) ∙ as_nobody_left_it wanted number)

pub is_ready_kept : (e : EnvState) (calls : List EnvCall) → StandsFor e calls → is_ready_in e ≡ is_ready e.wanted calls
is_ready_kept e calls stands = ap is_ready_in stands.1 ∙ ap phase_is_ready (phase_kept e.wanted e.number calls)

pub running_kept : (e : EnvState) (calls : List EnvCall) → StandsFor e calls → e.event ≡ running calls
unfolding state_of
running_kept e calls stands = rw stands.1 refl

pub closing_is_shut : (shut met before : Bool) → phase_is_closing (phase_by shut met before) ≡ shut
closing_is_shut true met before = refl
closing_is_shut false true before = refl
closing_is_shut false false true = refl
closing_is_shut false false false = refl
