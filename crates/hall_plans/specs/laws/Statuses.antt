-- Laws: where a slot stands after one event more, and what follows from where it stands.
use Rattle.std.proofs.Common.{◌≡◌, ℕ, ◌-◌, List, [], ◌∷◌, ◌++◌, length, take, drop, Bool, true, false, not, ◌&&◌, ◌||◌, cond, refl, sym, subst, ap, ◌∙◌, inl, inr, Option, Some, None, is_some, append_assoc, ◌==◌}
use Rattle.std.specs.Prelude.{slice_get}
use Rattle.std.specs.List.{filter_map, cons_option, list_any, after_last, suffix_len}
use Rattle.std.specs.Option.{option_or}
use Rattle.std.proofs.lemmas.List.{append-nil, take-append-drop}
use Rattle.std.proofs.lemmas.List.Folds.{list_any-append}
use Rattle.std.proofs.lemmas.Bool.{false≢true, cases_Bool, or_cases, or_parts, or_from, and_cases, and_left, and_right, eqb-true, eq-eqb}
use Rattle.std.proofs.lemmas.Option.{none-some, same_Some}
use Rattle.async_core.specs.laws.Lives.{after_last-snoc}
use Rattle.api_core.specs.declared.call.Call.{Call}
use Rattle.hall_plans.specs.Past.{SlotEvent, asked, replied, taken, forgotten, Past}
use Rattle.hall_plans.specs.Slots.{Reply, asks, takes, forgets, reply_by, since, reply_in, reply_of, closes, open_among, open_slots, is_open, is_open_in, tell, is_wanted_in, is_wanted, released_in, released}
use Rattle.hall_plans.specs.Status.{Status, status_of, fresh, after_reply, after_forgetting, status_after, is_open_by, is_wanted_by, released_by}
use Rattle.hall_plans.specs.laws.Replies.{since_append}

-- ## What stands after the last

module _ {A : Type 0} (p : A → Bool) where
  after_same : (xs zs ys : List A) → after_last p xs ≡ after_last p zs → after_last p (xs ++ ys) ≡ after_last p (zs ++ ys)
  after_same xs zs [] same = ap (after_last p) (append-nil xs) ∙ same ∙ sym (ap (after_last p) (append-nil zs))
  after_same xs zs (y ∷ ys) same =
      ap (after_last p) (sym (append_assoc xs (y ∷ []) ys))
      ∙ after_same (xs ++ y ∷ []) (zs ++ y ∷ []) ys
      (after_last-snoc p xs y ∙ ap (λ l. cond (p y) [] (l ++ y ∷ [])) same ∙ sym (after_last-snoc p zs y))
      ∙ ap (after_last p) (append_assoc zs (y ∷ []) ys)

  cleared : (xs : List A) (y : A) → p y ≡ true → after_last p (xs ++ y ∷ []) ≡ []
  cleared xs y here = after_last-snoc p xs y ∙ ap (λ b. cond b [] (after_last p xs ++ y ∷ [])) here

  -- what stands before one that passes does not count
  after_later : (xs ys : List A) → list_any p ys ≡ true → after_last p (xs ++ ys) ≡ after_last p ys
  after_later xs [] any = absurd (false≢true any)
  after_later xs (y ∷ ys) any =
      ap (after_last p) (sym (append_assoc xs (y ∷ []) ys))
      ∙ elim (or_cases (p y) (list_any p ys) any) [
        | inl here ↦ after_same (xs ++ y ∷ []) (y ∷ []) ys (cleared xs y here ∙ sym (cleared [] y here))
        | inr later ↦ after_later (xs ++ y ∷ []) ys later ∙ sym (after_later (y ∷ []) ys later)
      ]

  after_none : (ys : List A) → list_any p ys ≡ false → after_last p ys ≡ ys
  after_none ys none = since_append p [] ys none

  none_after : (q : A → Bool) (xs : List A) → list_any q xs ≡ false → list_any q (after_last p xs) ≡ false
  none_after q xs none =
      let n : ℕ = length xs - suffix_len (λ x. not (p x)) xs in
      let whole : (list_any q (take n xs) || list_any q (drop n xs)) ≡ false = sym (list_any-append q (take n xs) (drop n xs)) ∙ ap (list_any q) (take-append-drop n xs) ∙ none in
      (or_parts (list_any q (take n xs)) (list_any q (drop n xs)) whole).1

-- ## Which slots are open

-- what closes no slot does so neither with less in it
pub fewer : (t f b r t' f' r' : Bool) → (t ≡ false → t' ≡ false) → (f ≡ false → f' ≡ false) → (r ≡ false → r' ≡ false)
    → (t || (f && (b || r))) ≡ false → (t' || (f' && (b || r'))) ≡ false
fewer t f b r t' f' r' takes_fewer forgets_fewer replies_fewer opened =
    let parts = or_parts t (f && (b || r)) opened in
    or_from t' (f' && (b || r')) (takes_fewer parts.0)
    (elim (and_cases f (b || r) parts.1) [
      | inl none ↦ and_left f' (b || r') (forgets_fewer none)
      | inr none ↦ let both = or_parts b r none in and_right f' (b || r') (or_from b r' both.0 (replies_fewer both.1))
    ])

closes_since : (b : Bool) (slot : ℕ) (events : List SlotEvent) → closes b slot events ≡ false → closes b slot (since events slot) ≡ false
closes_since b slot events opened =
    fewer _ _ b _ _ _ _
    (none_after (asks slot) (takes slot) events)
    (none_after (asks slot) (forgets slot) events)
    (none_after (asks slot) (λ e. is_some (reply_by slot e)) events)
    opened

abbrev is_left : Bool → ℕ → Bool → List SlotEvent → Bool
is_left b slot any later = any && not (closes b slot later)

same_left : (b : Bool) (slot : ℕ) (any any' : Bool) (l l' : List SlotEvent) → any ≡ any' → l ≡ l' → is_left b slot any l ≡ is_left b slot any' l'
same_left b slot any any' l l' p q = ap (λ a. is_left b slot a l) p ∙ ap (λ l. is_left b slot any' l) q

module _ (b : Bool) (slot : ℕ) where
  -- a slot is open where a request came with it and nothing later closes it
  abbrev OpenIs : List SlotEvent → Type 0
  OpenIs events = is_open_in b events slot ≡ is_left b slot (list_any (asks slot) events) (since events slot)

  -- an event that asks nothing of this slot
  passed : (e : SlotEvent) (later : List SlotEvent) → asks slot e ≡ false → is_open_in b (e ∷ later) slot ≡ is_open_in b later slot → OpenIs later → OpenIs (e ∷ later)
  passed e later not_asked same is =
      let any : (asks slot e || list_any (asks slot) later) ≡ list_any (asks slot) later = ap (λ x. x || list_any (asks slot) later) not_asked in
      same ∙ is ∙ elim (cases_Bool (list_any (asks slot) later)) [
        | inl some ↦ same_left b slot _ _ _ _ (sym any) (sym (after_later (asks slot) (e ∷ []) later some))
        | inr none ↦ ap (λ a. is_left b slot a (since later slot)) none ∙ sym (ap (λ a. is_left b slot a (since (e ∷ later) slot)) (any ∙ none))
      ]

  self_open : (c : Bool) (opened : List ℕ) → list_any (λ other. slot == other) (cond c opened (slot ∷ opened)) ≡ cond c (list_any (λ other. slot == other) opened) true
  self_open true opened = refl
  self_open false opened = ap (λ x. x || list_any (λ other. slot == other) opened) (eq-eqb slot slot refl)

  other_open : (c : Bool) (other : ℕ) (opened : List ℕ) → (slot == other) ≡ false → list_any (λ o. slot == o) (cond c opened (other ∷ opened)) ≡ list_any (λ o. slot == o) opened
  other_open true other opened apart = refl
  other_open false other opened apart = ap (λ x. x || list_any (λ o. slot == o) opened) apart

  -- the request that came with this slot, and a later one or none
  asked_here : (call : Call) (later : List SlotEvent) → OpenIs later → OpenIs (asked slot call ∷ later)
  asked_here call later is =
      let here : (slot == slot) ≡ true = eq-eqb slot slot refl in
      let any : list_any (asks slot) (asked slot call ∷ later) ≡ true = ap (λ x. x || list_any (asks slot) later) here in
      self_open (closes b slot later) (open_among b later)
      ∙ elim (cases_Bool (list_any (asks slot) later)) [
        | inl some ↦
            let left : is_open_in b later slot ≡ not (closes b slot (since later slot)) = is ∙ ap (λ a. is_left b slot a (since later slot)) some in
            elim (cases_Bool (closes b slot later)) [
              | inl closed ↦ ap (λ c. cond c (is_open_in b later slot) true) closed ∙ left
              | inr opened ↦ ap (λ c. cond c (is_open_in b later slot) true) opened ∙ sym (ap not (closes_since b slot later opened))
            ]
            ∙ sym (same_left b slot _ _ _ _ any (after_later (asks slot) (asked slot call ∷ []) later some))
        | inr none ↦
            let now : since (asked slot call ∷ later) slot ≡ later = since_append (asks slot) (asked slot call ∷ []) later none ∙ ap (λ l. l ++ later) (cleared (asks slot) [] (asked slot call) here) in
            ap (λ o. cond (closes b slot later) o true) (is ∙ ap (λ a. is_left b slot a (since later slot)) none)
            ∙ turned (closes b slot later)
            ∙ sym (same_left b slot _ _ _ _ any now)
      ]
    where
      turned : (c : Bool) → cond c false true ≡ not c
      turned true = refl
      turned false = refl

  pub open_is : (events : List SlotEvent) → OpenIs events
  open_is [] = refl
  open_is (asked other call ∷ later) =
      elim (cases_Bool (slot == other)) [
        | inl here ↦ subst (λ o. OpenIs (asked o call ∷ later)) (eqb-true slot other here) (asked_here call later (open_is later))
        | inr apart ↦ passed (asked other call) later apart (other_open (closes b other later) other (open_among b later) apart) (open_is later)
      ]
  open_is (replied other answer point ∷ later) = passed (replied other answer point) later refl refl (open_is later)
  open_is (taken other ∷ later) = passed (taken other) later refl refl (open_is later)
  open_is (forgotten other ∷ later) = passed (forgotten other) later refl refl (open_is later)

-- ## A status by what was said since the last request

-- whether a request came, whether the slot was taken and forgotten since, and the first reply
abbrev status_from : Bool → Bool → Bool → Option Reply → Option Status
status_from came gone dropped reply =
    cond (came && not (gone || (dropped && is_some reply))) (Some (record { is_forgotten = dropped; reply = reply })) None

-- the same by what became of the slot
abbrev status_by : ℕ → Bool → List SlotEvent → Option Status
status_by slot came later =
    status_from came (list_any (takes slot) later) (list_any (forgets slot) later) (slice_get (filter_map (reply_by slot) later) 0)

replied_head : {A B : Type 0} (h : A → Option B) (o : Option B) (xs : List A) → list_any (λ x. is_some (h x)) xs ≡ is_some (slice_get (filter_map h xs) 0)
    → (is_some o || list_any (λ x. is_some (h x)) xs) ≡ is_some (slice_get (cons_option o (filter_map h xs)) 0)
replied_head h None xs same = same
replied_head h (Some y) xs same = refl

is_replied : {A B : Type 0} (h : A → Option B) (xs : List A) → list_any (λ x. is_some (h x)) xs ≡ is_some (slice_get (filter_map h xs) 0)
is_replied h [] = refl
is_replied h (x ∷ xs) = replied_head h (h x) xs (is_replied h xs)

first_head : {B : Type 0} (o more : Option B) (xs ys : List B) → slice_get ys 0 ≡ option_or (slice_get xs 0) more
    → slice_get (cons_option o ys) 0 ≡ option_or (slice_get (cons_option o xs) 0) more
first_head None more xs ys same = same
first_head (Some y) more xs ys same = refl

first_alone : {B : Type 0} (o : Option B) → slice_get (cons_option o []) 0 ≡ o
first_alone None = refl
first_alone (Some y) = refl

first_more : {A B : Type 0} (h : A → Option B) (xs : List A) (y : A) → slice_get (filter_map h (xs ++ y ∷ [])) 0 ≡ option_or (slice_get (filter_map h xs) 0) (h y)
first_more h [] y = first_alone (h y)
first_more h (x ∷ xs) y = first_head (h x) (h y) (filter_map h xs) (filter_map h (xs ++ y ∷ [])) (first_more h xs y)

status_is : (events : List SlotEvent) (slot : ℕ) → status_of events slot ≡ status_by slot (list_any (asks slot) events) (since events slot)
unfolding status_of
status_is events slot =
    let status : Status = record { is_forgotten = list_any (forgets slot) (since events slot); reply = reply_in events slot } in
    ap (λ b. cond b (Some status) None)
    (open_is false slot events
    ∙ ap (λ r. list_any (asks slot) events && not (list_any (takes slot) (since events slot) || (list_any (forgets slot) (since events slot) && r))) (is_replied (reply_by slot) (since events slot)))

status_by-more : (slot : ℕ) (came : Bool) (later : List SlotEvent) (e : SlotEvent)
    → status_by slot came (later ++ e ∷ [])
    ≡ status_from came (list_any (takes slot) later || (takes slot e || false)) (list_any (forgets slot) later || (forgets slot e || false)) (option_or (slice_get (filter_map (reply_by slot) later) 0) (reply_by slot e))
status_by-more slot came later e =
    ap (λ t. status_from came t (list_any (forgets slot) (later ++ e ∷ [])) (slice_get (filter_map (reply_by slot) (later ++ e ∷ [])) 0)) (list_any-append (takes slot) later (e ∷ []))
    ∙ ap (λ f. status_from came (list_any (takes slot) later || (takes slot e || false)) f (slice_get (filter_map (reply_by slot) (later ++ e ∷ [])) 0)) (list_any-append (forgets slot) later (e ∷ []))
    ∙ ap (λ r. status_from came (list_any (takes slot) later || (takes slot e || false)) (list_any (forgets slot) later || (forgets slot e || false)) r) (first_more (reply_by slot) later e)

-- ## One event more

unchanged : (a t f : Bool) (r : Option Reply) → status_from a (t || (false || false)) (f || (false || false)) (option_or r None) ≡ status_from a t f r
unchanged false t f r = refl
unchanged true true f r = refl
unchanged true false true None = refl
unchanged true false true (Some reply) = refl
unchanged true false false None = refl
unchanged true false false (Some reply) = refl

opened_anew : (a : Bool) → status_from (a || (true || false)) false false None ≡ Some fresh
opened_anew true = refl
opened_anew false = refl

with_reply : (reply : Reply) (a t f : Bool) (r : Option Reply)
    → status_from a (t || (false || false)) (f || (false || false)) (option_or r (Some reply)) ≡ after_reply reply (status_from a t f r)
with_reply reply false t f r = refl
with_reply reply true true f r = refl
with_reply reply true false true None = refl
with_reply reply true false true (Some first) = refl
with_reply reply true false false None = refl
with_reply reply true false false (Some first) = refl

when_taken : (a t f : Bool) (r : Option Reply) → status_from a (t || (true || false)) (f || (false || false)) (option_or r None) ≡ None
when_taken false t f r = refl
when_taken true true f r = refl
when_taken true false f r = refl

when_forgotten : (a t f : Bool) (r : Option Reply)
    → status_from a (t || (false || false)) (f || (true || false)) (option_or r None) ≡ after_forgetting (status_from a t f r)
when_forgotten false t f r = refl
when_forgotten true true f r = refl
when_forgotten true false true None = refl
when_forgotten true false true (Some reply) = refl
when_forgotten true false false None = refl
when_forgotten true false false (Some reply) = refl

any_false : (a : Bool) → (a || (false || false)) ≡ a
any_false true = refl
any_false false = refl

asked_case : (b a : Bool) (slot : ℕ) (later : List SlotEvent) (status : Option Status) → status_by slot a later ≡ status
    → status_by slot (a || (b || false)) (cond b [] later) ≡ cond b (Some fresh) status
asked_case true a slot later status is = opened_anew a
asked_case false a slot later status is = ap (λ c. status_by slot c later) (any_false a) ∙ is

replied_case : (b : Bool) (reply : Reply) (a t f : Bool) (r : Option Reply)
    → status_from a (t || (false || false)) (f || (false || false)) (option_or r (cond b (Some reply) None))
    ≡ cond b (after_reply reply (status_from a t f r)) (status_from a t f r)
replied_case true reply a t f r = with_reply reply a t f r
replied_case false reply a t f r = unchanged a t f r

taken_case : (b a t f : Bool) (r : Option Reply)
    → status_from a (t || (b || false)) (f || (false || false)) (option_or r None) ≡ cond b None (status_from a t f r)
taken_case true a t f r = when_taken a t f r
taken_case false a t f r = unchanged a t f r

forgotten_case : (b a t f : Bool) (r : Option Reply)
    → status_from a (t || (false || false)) (f || (b || false)) (option_or r None) ≡ cond b (after_forgetting (status_from a t f r)) (status_from a t f r)
forgotten_case true a t f r = when_forgotten a t f r
forgotten_case false a t f r = unchanged a t f r

module _ (events : List SlotEvent) (slot : ℕ) where
  abbrev any : Bool
  any = list_any (asks slot) events

  abbrev gone : Bool
  gone = list_any (takes slot) (since events slot)

  abbrev dropped : Bool
  dropped = list_any (forgets slot) (since events slot)

  more_is : (e : SlotEvent) → status_of (events ++ e ∷ []) slot ≡ status_by slot (any || (asks slot e || false)) (cond (asks slot e) [] (since events slot ++ e ∷ []))
  more_is e =
      status_is (events ++ e ∷ []) slot
      ∙ ap (λ a. status_by slot a (since (events ++ e ∷ []) slot)) (list_any-append (asks slot) events (e ∷ []))
      ∙ ap (λ l. status_by slot (any || (asks slot e || false)) l) (after_last-snoc (asks slot) events e)

  -- an event that is no request
  told_more : (e : SlotEvent) → asks slot e ≡ false → status_of (events ++ e ∷ []) slot ≡ status_by slot any (since events slot ++ e ∷ [])
  told_more e unasked =
      more_is e
      ∙ ap (λ b. status_by slot (any || (b || false)) (cond b [] (since events slot ++ e ∷ []))) unasked
      ∙ ap (λ a. status_by slot a (since events slot ++ e ∷ [])) (any_false any)

  -- where a slot stands after one event more
  pub status_snoc : (e : SlotEvent) → status_of (events ++ e ∷ []) slot ≡ status_after e slot (status_of events slot)
  status_snoc (asked other call) =
      more_is (asked other call)
      ∙ asked_case (slot == other) any slot (since events slot ++ asked other call ∷ []) (status_of events slot)
      (status_by-more slot any (since events slot) (asked other call) ∙ unchanged any gone dropped (reply_in events slot) ∙ sym (status_is events slot))
  status_snoc (replied other answer point) =
      told_more (replied other answer point) refl
      ∙ status_by-more slot any (since events slot) (replied other answer point)
      ∙ replied_case (slot == other) (answer, point) any gone dropped (reply_in events slot)
      ∙ ap (status_after (replied other answer point) slot) (sym (status_is events slot))
  status_snoc (taken other) =
      told_more (taken other) refl
      ∙ status_by-more slot any (since events slot) (taken other)
      ∙ taken_case (slot == other) any gone dropped (reply_in events slot)
      ∙ ap (status_after (taken other) slot) (sym (status_is events slot))
  status_snoc (forgotten other) =
      told_more (forgotten other) refl
      ∙ status_by-more slot any (since events slot) (forgotten other)
      ∙ forgotten_case (slot == other) any gone dropped (reply_in events slot)
      ∙ ap (status_after (forgotten other) slot) (sym (status_is events slot))

pub status_nil : (slot : ℕ) → status_of [] slot ≡ None
unfolding status_of
status_nil slot = refl

-- ## What a status says

open_from : (b a t f : Bool) (r : Option Reply) → (a && not (t || (f && (b || is_some r)))) ≡ is_open_by b (status_from a t f r)
open_from b false t f r = refl
open_from b true true f r = refl
open_from true true false false r = refl
open_from false true false false r = refl
open_from true true false true None = refl
open_from false true false true None = refl
open_from true true false true (Some reply) = refl
open_from false true false true (Some reply) = refl

-- a slot is open, in a hall that is broken or is not
pub open_by_standing : (b : Bool) (events : List SlotEvent) (slot : ℕ) → is_open_in b events slot ≡ is_open_by b (status_of events slot)
open_by_standing b events slot =
    open_is b slot events
    ∙ ap (λ r. any events slot && not (gone events slot || (dropped events slot && (b || r)))) (is_replied (reply_by slot) (since events slot))
    ∙ open_from b (any events slot) (gone events slot) (dropped events slot) (reply_in events slot)
    ∙ ap (is_open_by b) (sym (status_is events slot))

wanted_from : (a t f : Bool) (r : Option Reply) → (a && not (t || f)) ≡ is_wanted_by (status_from a t f r)
wanted_from false t f r = refl
wanted_from true true f r = refl
wanted_from true false true None = refl
wanted_from true false true (Some reply) = refl
wanted_from true false false r = refl

-- a reply is wanted where the slot is open and was not forgotten
pub wanted_by_status : (events : List SlotEvent) (slot : ℕ) → is_wanted_in events slot ≡ is_wanted_by (status_of events slot)
wanted_by_status events slot = wanted_from (any events slot) (gone events slot) (dropped events slot) (reply_in events slot) ∙ ap is_wanted_by (sym (status_is events slot))

released_from : (broken : Bool) (durable : ℕ) (a t f : Bool) (r : Option Reply)
    → cond (a && not (t || f)) (tell broken durable r) None ≡ released_by broken durable (status_from a t f r)
released_from broken durable false t f r = refl
released_from broken durable true true f r = refl
released_from broken durable true false true None = refl
released_from broken durable true false true (Some reply) = refl
released_from broken durable true false false r = refl

-- what a take gives
pub released_by_status : (broken : Bool) (durable : ℕ) (events : List SlotEvent) (slot : ℕ)
    → released_in broken durable events slot ≡ released_by broken durable (status_of events slot)
released_by_status broken durable events slot =
    released_from broken durable (any events slot) (gone events slot) (dropped events slot) (reply_in events slot)
    ∙ ap (released_by broken durable) (sym (status_is events slot))

status_parts : (b : Bool) (status found : Status) → cond b (Some status) None ≡ Some found → (b ≡ true) × (status ≡ found)
status_parts true status found is = (refl, same_Some status found is)
status_parts false status found is = absurd (none-some found is)

-- the reply of an open slot
pub reply_by_status : (events : List SlotEvent) (slot : ℕ) (status : Status) → status_of events slot ≡ Some status → reply_in events slot ≡ status.reply
unfolding status_of
reply_by_status events slot status is = ap (λ (s : Status). s.reply) (status_parts (is_open_in false events slot) _ status is).1

-- a slot is open where it has a status
pub open_by_status : (events : List SlotEvent) (slot : ℕ) → is_open_in false events slot ≡ is_some (status_of events slot)
unfolding status_of
open_by_status events slot = some_where (is_open_in false events slot) _
  where
    some_where : (b : Bool) (status : Status) → b ≡ is_some (cond b (Some status) None)
    some_where true status = refl
    some_where false status = refl

-- ## The same of what a hall did

pub wanted_of_status : (past : Past) (slot : ℕ) → is_wanted past slot ≡ is_wanted_by (status_of past.slots slot)
wanted_of_status past slot = wanted_by_status past.slots slot

pub reply_of_status : (past : Past) (slot : ℕ) (status : Status) → status_of past.slots slot ≡ Some status → reply_of past slot ≡ status.reply
unfolding reply_of
reply_of_status past slot status is = reply_by_status past.slots slot status is

pub released_of_status : (broken : Bool) (durable : ℕ) (past : Past) (slot : ℕ)
    → released broken durable past slot ≡ released_by broken durable (status_of past.slots slot)
unfolding released
released_of_status broken durable past slot = released_by_status broken durable past.slots slot

pub open_slots_are : (broken : Bool) (past : Past) → open_slots broken past ≡ open_among broken past.slots
unfolding open_slots
open_slots_are broken past = refl

pub open_of_status : (past : Past) (slot : ℕ) → is_open false past slot ≡ is_some (status_of past.slots slot)
unfolding open_slots
open_of_status past slot = open_by_status past.slots slot
