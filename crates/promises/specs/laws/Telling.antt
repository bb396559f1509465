-- Laws: which call computed the reply to a slot, and what the history was then.
use Rattle.std.proofs.Common.{◌≡◌, ℕ, ◌≤◌, List, [], ◌∷◌, ◌++◌, length, length-append, take, Bool, true, false, ◌||◌, ◌==◌, cond, refl, sym, subst, ap, ◌∙◌, arith, Option, Some, None, ◌⊎◌, inl, inr, map}
use Rattle.std.specs.Prelude.{slice_get, flat_map, nat_le}
use Rattle.std.specs.List.{filter_map, list_any, after_last, cons_option}
use Rattle.std.proofs.lemmas.Bool.{or_parts, eqb-true, leb-true}
use Rattle.std.proofs.lemmas.List.{append_assoc, append-nil}
use Rattle.std.proofs.lemmas.List.Folds.{list_any-append}
use Rattle.std.proofs.lemmas.List.Elements.{filter_map-append}
use Rattle.std.proofs.lemmas.Option.{none-some}
use Rattle.std.proofs.Math.Seq.{take-append_seam}
use Rattle.retry_rules.specs.declared.settings.Settings.{Settings}
use Rattle.invoke_records.specs.declared.command.Command.{Command}
use Rattle.async_core.specs.laws.Lives.{after_last-snoc}
use Rattle.env_phase.specs.declared.answer.PollAnswer.{PollAnswer}
use Rattle.env_phase.specs.declared.call.EnvCall.{EnvCall}
use Rattle.env_phase.specs.Polls.{answered_by}
use Rattle.api_core.specs.declared.call.Call.{Call}
use Rattle.api_core.specs.declared.dialect.Audience.TheVariants.{Caller}
use Rattle.api_core.specs.declared.refusal.Refusal.TheVariants.{Unavailable}
use Rattle.api_core.specs.Replies.{Told, refused}
use Rattle.hall_plans.specs.Past.{HallCall, arrive, tick, take_slot, forget_slot, SlotEvent, asked, replied, taken, forgotten, Past, opening, calls_of}
use Rattle.hall_plans.specs.Effects.{Effect, effect_of}
use Rattle.hall_plans.specs.Run.{option_list, reply_to_poll, replies_to_polls, own_reply, own_event, slot_events, past_after, after}
use Rattle.hall_plans.specs.Slots.{Reply, asks, reply_by, reply_in, reply_of, unavailable, tell, is_wanted_in, released}
use Rattle.hall_plans.specs.Promises.{comes_with}
use Rattle.hall_plans.specs.laws.Ranks.{IsIn}
use Rattle.hall_plans.specs.laws.Adding.{history_grows}

-- ## Lists

pub in_append : {A : Type 0} (x : A) (xs ys : List A) → IsIn x (xs ++ ys) → IsIn x xs ⊎ IsIn x ys
in_append x [] ys there = inr there
in_append x (y ∷ xs) ys (inl is) = inl (inl is)
in_append x (y ∷ xs) ys (inr there) = elim (in_append x xs ys there) [ inl left ↦ inl (inr left) | inr right ↦ inr right ]

-- the first that h gives behind the last that passes is the old one, or that of a new element
record FirstFrom {A B : Type 0} (h : A → Option B) (ys : List A) (r : B) : Type 0 where
  pub of : A
  pub there : IsIn of ys
  pub gives : h of ≡ Some r

abbrev first : {B : Type 0} → List B → Option B
first xs = slice_get xs 0

cons_first : {B : Type 0} (o : Option B) (r : B) → first (cons_option o []) ≡ Some r → o ≡ Some r
cons_first None r h = absurd (none-some r h)
cons_first (Some x) r h = h

at_seam : {A B : Type 0} (h : A → Option B) (front : List B) (y : A) (r : B) → first (front ++ cons_option (h y) []) ≡ Some r → (first front ≡ Some r) ⊎ (h y ≡ Some r)
at_seam h [] y r is = inr (cons_first (h y) r is)
at_seam h (x ∷ front) y r is = inl is

seam : {A B : Type 0} (h : A → Option B) (p : A → Bool) (passes : Bool) (xs : List A) (y : A) (r : B) → first (filter_map h (cond passes [] (xs ++ y ∷ []))) ≡ Some r
    → ((first (filter_map h xs) ≡ Some r) × (passes ≡ false)) ⊎ (h y ≡ Some r)
seam h p true xs y r is = absurd (none-some r is)
seam h p false xs y r is =
    elim (at_seam h (filter_map h xs) y r (sym (ap first (filter_map-append h xs (y ∷ []))) ∙ is)) [ inl old ↦ inl (old, refl) | inr new ↦ inr new ]

none_of : (a b : Bool) → a ≡ false → b ≡ false → (a || b) ≡ false
none_of a b p q = rw (p, q) refl

first_behind : {A B : Type 0} (h : A → Option B) (p : A → Bool) (xs ys : List A) (r : B) → first (filter_map h (after_last p (xs ++ ys))) ≡ Some r
    → ((first (filter_map h (after_last p xs)) ≡ Some r) × (list_any p ys ≡ false)) ⊎ FirstFrom h ys r
first_behind h p xs [] r is = inl (ap (λ l. first (filter_map h (after_last p l))) (sym (append-nil xs)) ∙ is, refl)
first_behind h p xs (y ∷ ys) r is =
    elim (first_behind h p (xs ++ y ∷ []) ys r (ap (λ l. first (filter_map h (after_last p l))) (append_assoc xs (y ∷ []) ys) ∙ is)) [
      | inr new ↦ inr (record { of = new.of; there = inr new.there; gives = new.gives })
      | inl (old, none) ↦
          elim (seam h p (p y) (after_last p xs) y r (sym (ap (λ l. first (filter_map h l)) (after_last-snoc p xs y)) ∙ old)) [
            | inl (before, other) ↦ inl (before, none_of (p y) (list_any p ys) other none)
            | inr gives ↦ inr (record { of = y; there = inl refl; gives = gives })
          ]
    ]

-- ## The replies of one call

-- the call is the request of the slot, and this is its reply
pub record IsOwn (s : Settings) (past : Past) (call : HallCall) (slot : ℕ) (told : Told) : Type 0 where
  pub request : Call
  pub now : ℕ
  pub words : ℕ × ℕ
  pub is : call ≡ arrive slot request now words
  pub reply : (effect_of s past (arrive slot request now words)).reply ≡ Some told

-- it answers a poll
pub record IsPolled (past : Past) (told : Told) : Type 0 where
  pub poll : PollAnswer
  pub is : told ≡ reply_to_poll past.history poll

-- the call computed this for the slot, at the end of the history after it
pub record IsComputed (s : Settings) (past : Past) (call : HallCall) (slot : ℕ) (reply : Reply) : Type 0 where
  pub point : reply.1 ≡ length (past_after s past call).history
  pub told : IsPolled past reply.0 ⊎ IsOwn s past call slot reply.0

replied_is : (b : Bool) (answer : Told) (point : ℕ) (r : Reply) → cond {A = Option Reply} b (Some (answer, point)) None ≡ Some r → (b ≡ true) × (answer ≡ r.0) × (point ≡ r.1)
replied_is true answer point r h =
    let same : (answer, point) ≡ r = cc in
    (refl, ap (λ (v : Reply). v.0) same, ap (λ (v : Reply). v.1) same)
replied_is false answer point r h = absurd (none-some r h)

silent : {A : Type 0} (slot : ℕ) (e event : SlotEvent) (r : Reply) → e ≡ event → reply_by slot e ≡ None → reply_by slot event ≡ Some r → A
silent slot e event r is none gives = absurd (none-some r (sym none ∙ ap (reply_by slot) is ∙ gives))

own_is_silent : {A : Type 0} (slot : ℕ) (call : HallCall) (event : SlotEvent) (r : Reply) → IsIn event (own_event call) → reply_by slot event ≡ Some r → A
own_is_silent slot (arrive other call now words) event r (inl is) gives = silent slot (asked other call) event r is refl gives
own_is_silent slot (arrive other call now words) event r (inr none) gives = absurd none
own_is_silent slot (tick now) event r there gives = absurd there
own_is_silent slot (take_slot other) event r (inl is) gives = silent slot (taken other) event r is refl gives
own_is_silent slot (take_slot other) event r (inr none) gives = absurd none
own_is_silent slot (forget_slot other) event r (inl is) gives = silent slot (forgotten other) event r is refl gives
own_is_silent slot (forget_slot other) event r (inr none) gives = absurd none

abbrev polled_event : Past → ℕ → ℕ × PollAnswer → SlotEvent
polled_event past point poll = replied poll.0 (reply_to_poll past.history poll.1) point

of_polls : (slot point : ℕ) (past : Past) (polls : List (ℕ × PollAnswer)) (event : SlotEvent) (r : Reply) → IsIn event (map (λ (poll : ℕ × PollAnswer). polled_event past point poll) polls) → reply_by slot event ≡ Some r
    → IsPolled past r.0 × (r.1 ≡ point)
of_polls slot point past [] event r there gives = absurd there
of_polls slot point past (poll ∷ polls) event r (inr there) gives = of_polls slot point past polls event r there gives
of_polls slot point past (poll ∷ polls) event r (inl is) gives =
    let parts = replied_is (slot == poll.0) (reply_to_poll past.history poll.1) point r (ap (reply_by slot) is ∙ gives) in
    (record { poll = poll.1; is = sym parts.1 }, sym parts.2)

of_all_polls : (slot point : ℕ) (past : Past) (made : List (ℕ × EnvCall)) (event : SlotEvent) (r : Reply) → IsIn event (flat_map (replies_to_polls past point) made) → reply_by slot event ≡ Some r
    → IsPolled past r.0 × (r.1 ≡ point)
of_all_polls slot point past [] event r there gives = absurd there
of_all_polls slot point past (m ∷ made) event r there gives =
    elim (in_append event (replies_to_polls past point m) (flat_map (replies_to_polls past point) made) there) [
      | inl here ↦ of_polls slot point past (answered_by (calls_of past m.0) m.1) event r here gives
      | inr rest ↦ of_all_polls slot point past made event r rest gives
    ]

of_own : (slot point : ℕ) (call : HallCall) (answer : Option Told) (event : SlotEvent) (r : Reply) → IsIn event (own_reply point call answer) → reply_by slot event ≡ Some r
    → (request : Call) × (now : ℕ) × (words : ℕ × ℕ) × (call ≡ arrive slot request now words) × (answer ≡ Some r.0) × (r.1 ≡ point)
of_own slot point (arrive other call now words) None event r there gives = absurd there
of_own slot point (arrive other call now words) (Some answer) event r (inr none) gives = absurd none
of_own slot point (arrive other call now words) (Some answer) event r (inl is) gives =
    let parts = replied_is (slot == other) answer point r (ap (reply_by slot) is ∙ gives) in
    (call, now, words, ap (λ n. arrive n call now words) (sym (eqb-true slot other parts.0)), ap Some parts.1, sym parts.2)
of_own slot point (tick now) answer event r there gives = absurd there
of_own slot point (take_slot other) answer event r there gives = absurd there
of_own slot point (forget_slot other) answer event r there gives = absurd there

computed_by : (s : Settings) (past : Past) (call : HallCall) (slot point : ℕ) (r : Reply) → point ≡ length (past_after s past call).history
    → FirstFrom (reply_by slot) (slot_events past call (effect_of s past call) point) r → IsComputed s past call slot r
computed_by s past call slot point r at new =
    let effect = effect_of s past call in
    elim (in_append new.of (own_event call ++ flat_map (replies_to_polls past point) effect.made) (own_reply point call effect.reply) new.there) [
      | inl front ↦
          elim (in_append new.of (own_event call) (flat_map (replies_to_polls past point) effect.made) front) [
            | inl own ↦ own_is_silent slot call new.of r own new.gives
            | inr polls ↦
                let is = of_all_polls slot point past effect.made new.of r polls new.gives in
                record { point = is.1 ∙ at; told = inl is.0 }
          ]
      | inr last ↦
          let is = of_own slot point call effect.reply new.of r last new.gives in
          record {
            point = is.5 ∙ at;
            told = inr (record { request = is.0; now = is.1; words = is.2; is = is.3; reply = ap (λ c. (effect_of s past c).reply) (sym is.3) ∙ is.4 });
          }
    ]

uncalled : (slot : ℕ) (past : Past) (call : HallCall) (effect : Effect) (point : ℕ) → list_any (asks slot) (slot_events past call effect point) ≡ false → comes_with slot call ≡ false
uncalled slot past call effect point none =
    let front = or_parts (list_any (asks slot) (own_event call ++ flat_map (replies_to_polls past point) effect.made)) (list_any (asks slot) (own_reply point call effect.reply))
    (sym (list_any-append (asks slot) (own_event call ++ flat_map (replies_to_polls past point) effect.made) (own_reply point call effect.reply)) ∙ none) in
    (or_parts (list_any (asks slot) (own_event call)) (list_any (asks slot) (flat_map (replies_to_polls past point) effect.made))
    (sym (list_any-append (asks slot) (own_event call) (flat_map (replies_to_polls past point) effect.made)) ∙ front.0)).0

-- a reply that is there after a call was there before, or is computed by it
one_call : (s : Settings) (past : Past) (call : HallCall) (slot : ℕ) (r : Reply) → reply_of (past_after s past call) slot ≡ Some r
    → ((reply_of past slot ≡ Some r) × (comes_with slot call ≡ false)) ⊎ IsComputed s past call slot r
unfolding reply_of past_after
one_call s past call slot r is =
    let effect = effect_of s past call in
    let point = length (past.history ++ option_list effect.command) in
    elim (first_behind (reply_by slot) (asks slot) past.slots (slot_events past call effect point) r is) [
      | inl (old, none) ↦ inl (old, uncalled slot past call effect point none)
      | inr new ↦ inr (computed_by s past call slot point r refl new)
    ]

-- ## The replies of a run

-- this call of the run computed it, and no request came with the slot since
pub record Origin (s : Settings) (past : Past) (run : List HallCall) (slot : ℕ) (reply : Reply) : Type 0 where
  pub front : List HallCall
  pub call : HallCall
  pub later : List HallCall
  pub split : run ≡ front ++ call ∷ later
  pub computed : IsComputed s (after s past front) call slot reply
  pub there : reply_of (past_after s (after s past front) call) slot ≡ Some reply
  pub unasked : list_any (comes_with slot) later ≡ false

origin_since : (s : Settings) (past : Past) (run : List HallCall) (slot : ℕ) (r : Reply) → reply_of (after s past run) slot ≡ Some r
    → ((reply_of past slot ≡ Some r) × (list_any (comes_with slot) run ≡ false)) ⊎ Origin s past run slot r
origin_since s past [] slot r is = inl (is, refl)
origin_since s past (call ∷ run) slot r is =
    elim (origin_since s (past_after s past call) run slot r is) [
      | inl (there, none) ↦
          elim (one_call s past call slot r there) [
            | inl (before, unasked) ↦ inl (before, none_of (comes_with slot call) (list_any (comes_with slot) run) unasked none)
            | inr computed ↦ inr (record { front = []; call = call; later = run; split = refl; computed = computed; there = there; unasked = none })
          ]
      | inr o ↦
          inr (record { front = call ∷ o.front; call = o.call; later = o.later; split = ap (λ l. call ∷ l) o.split; computed = o.computed; there = o.there; unasked = o.unasked })
    ]

no_reply_yet : (wanted : ℕ) (history : List Command) (slot : ℕ) (r : Reply) → reply_of (opening wanted history) slot ≡ Some r → ⊥
unfolding reply_of
no_reply_yet wanted history slot r is = none-some r is

-- each reply of a run was computed by a call of it
pub origin : (s : Settings) (wanted : ℕ) (history : List Command) (run : List HallCall) (slot : ℕ) (r : Reply) → reply_of (after s (opening wanted history) run) slot ≡ Some r
    → Origin s (opening wanted history) run slot r
origin s wanted history run slot r is =
    elim (origin_since s (opening wanted history) run slot r is) [ inl (before, none) ↦ absurd (no_reply_yet wanted history slot r before) | inr o ↦ o ]

-- ## The history then

-- a run appends to the history
pub history_longer : (s : Settings) (past : Past) (run : List HallCall) → (more : List Command) × ((after s past run).history ≡ past.history ++ more)
history_longer s past [] = ([], sym (append-nil past.history))
history_longer s past (call ∷ run) =
    let rest = history_longer s (past_after s past call) run in
    let own = option_list (effect_of s past call).command in
    (own ++ rest.0, rest.1 ∙ ap (λ l. l ++ rest.0) (history_grows s past call) ∙ append_assoc past.history own rest.0)

pub run_parts : (s : Settings) (past : Past) (front : List HallCall) (call : HallCall) (later : List HallCall) → after s past (front ++ call ∷ later) ≡ after s (past_after s (after s past front) call) later
run_parts s past [] call later = refl
run_parts s past (c ∷ front) call later = run_parts s (past_after s past c) front call later

module _ (s : Settings) (past : Past) (run : List HallCall) (slot : ℕ) (r : Reply) (o : Origin s past run slot r) where
  abbrev then : Past
  then = past_after s (after s past o.front) o.call

  whole_is : (more : List Command) × ((after s past run).history ≡ then.history ++ more)
  whole_is =
      let rest = history_longer s then o.later in
      (rest.0, ap (λ l. (after s past l).history) o.split ∙ ap (λ (p : Past). p.history) (run_parts s past o.front o.call o.later) ∙ rest.1)

  pub point_is : r.1 ≡ length then.history
  point_is = o.computed.point

  pub point_within : r.1 ≤ length (after s past run).history
  point_within = subst (λ n. n ≤ length (after s past run).history) (sym point_is) (subst (λ (l : List Command). length then.history ≤ length l) (sym whole_is.1) (omega (arith, length-append then.history whole_is.0)))

  pub history_then : take r.1 (after s past run).history ≡ then.history
  history_then = ap (λ n. take n (after s past run).history) point_is ∙ ap (take (length then.history)) whole_is.1 ∙ take-append_seam then.history whole_is.0

-- ## What is released

module _ (durable point : ℕ) where
  told_when : (broken fits : Bool) (told other : Told) (r : Reply) → nat_le point durable ≡ fits
      → cond {A = Option Reply} fits (Some (told, point)) (cond broken (Some (other, durable)) None) ≡ Some r → ((told ≡ r.0) × (point ≡ r.1) × (point ≤ durable)) ⊎ (r.0 ≡ other)
  told_when broken true told other r fits h =
      let same : (told, point) ≡ r = cc in
      inl (ap (λ (v : Reply). v.0) same, ap (λ (v : Reply). v.1) same, leb-true point durable fits)
  told_when true false told other r fits h =
      let same : (other, durable) ≡ r = cc in
      inr (ap (λ (v : Reply). v.0) (sym same))
  told_when false false told other r fits h = absurd (none-some r h)

pair_is : (a b : Reply) → a.0 ≡ b.0 → a.1 ≡ b.1 → a ≡ b
pair_is (a, m) (b, n) p q = rw (p, q) refl

released_when : (wanted broken : Bool) (durable : ℕ) (reply : Option Reply) (r : Reply) → cond {A = Option Reply} wanted (tell broken durable reply) None ≡ Some r
    → ((reply ≡ Some r) × (r.1 ≤ durable)) ⊎ (r.0 ≡ refused Caller Unavailable)
released_when false broken durable reply r h = absurd (none-some r h)
released_when true false durable None r h = absurd (none-some r h)
released_when true true durable None r h = inr (let same : unavailable durable ≡ r = cc in ap (λ (v : Reply). v.0) (sym same))
released_when true broken durable (Some told) r h =
    elim (told_when durable told.1 broken (nat_le told.1 durable) told.0 (refused Caller Unavailable) r refl h) [
      | inl (answer, point, within) ↦ inl (let same : told ≡ r = pair_is told r answer point in ap Some same, subst (λ n. n ≤ durable) point within)
      | inr is ↦ inr is
    ]

-- what is released was computed, and is durable up to its point, or it is that the broker is not available
pub released_is : (broken : Bool) (durable : ℕ) (past : Past) (slot : ℕ) (r : Reply) → released broken durable past slot ≡ Some r
    → ((reply_of past slot ≡ Some r) × (r.1 ≤ durable)) ⊎ (r.0 ≡ refused Caller Unavailable)
unfolding released reply_of
released_is broken durable past slot r h = released_when (is_wanted_in past.slots slot) broken durable (reply_in past.slots slot) r h
