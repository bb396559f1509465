-- Lemmas: what open slots keep after each of their steps.
use Rattle.std.proofs.Common.{◌≡◌, ℕ, List, [], ◌∷◌, ◌++◌, length, Bool, true, false, not, cond, refl, sym, ap, ◌∙◌, inl, inr, arith, Option, Some, None, is_some, option_map, nat_le, ◌==◌}
use Rattle.std.specs.Prelude.{Result, Ok, Err, OnOk, OnSome}
use Rattle.std.specs.Option.{option_len}
use Rattle.std.proofs.lemmas.Bool.{true≢false, cases_Bool, eqb-true, eqb-false, ne_eqb, eq-eqb}
use Rattle.api_core.specs.declared.call.Call.{Call}
use Rattle.api_core.specs.Replies.{Words, Told, reply_in}
use Rattle.api_core.specs.declared.reply.Reply.{Reply as Text}
use Rattle.hall_core.specs.declared.open_slot.OpenSlot.{OpenSlot}
use Rattle.hall_core.specs.declared.open_slot.SlotStanding.{SlotStanding}
use Rattle.hall_core.specs.declared.open_slot.SlotStanding.TheVariants.{Waiting, Forgotten, Replied}
use Rattle.hall_plans.specs.Past.{SlotEvent, asked, replied, taken, forgotten}
use Rattle.hall_plans.specs.Slots.{Reply, is_open_in, tell, unavailable, released_in}
use Rattle.hall_plans.specs.Status.{Status, status_of, slot_of, fresh, after_reply, after_forgetting, changed_by, status_after, is_open_by, released_by, ComesApart}
use Rattle.hall_core.specs.OpenSlots.{Entries, entry_at, is_open_at, has_open, told_in, unavailable_in, kept, KeepFor, KeepMore}
use Rattle.hall_core.specs.SlotSteps.{PutsEntry, fresh_entry, standing_of, with_reply, marked, released_at, tell_entry}
use Rattle.hall_plans.specs.laws.Statuses.{status_snoc, status_nil, open_by_status, open_by_standing, released_by_status}
use Rattle.hall_plans.specs.laws.Counts.{apart_nil, apart_front, apart_last, apart_more, count_snoc}

-- ## Entries and statuses

mapped_len : {A B : Type 0} (f : A → B) (o : Option A) → option_len (option_map f o) ≡ option_len o
mapped_len f None = refl
mapped_len f (Some x) = refl

pub nothing_there : {A : Type 0} (o : Option A) → is_some o ≡ false → o ≡ None
nothing_there None none = refl
nothing_there (Some x) none = absurd (true≢false none)

open_where_kept : (b : Bool) (s : Words) (status : Option Status) → is_open_at b (option_map (kept s) status) ≡ is_open_by b status
open_where_kept b s None = refl
open_where_kept b s (Some status) = refl

pub open_kept : (b : Bool) (s : Words) (slots : Entries) (events : List SlotEvent) (slot : ℕ) → KeepFor s slots events
    → has_open b slots slot ≡ is_open_in b events slot
open_kept b s slots events slot keeps =
    ap (is_open_at b) (keeps.each slot) ∙ open_where_kept b s (status_of events slot) ∙ sym (open_by_standing b events slot)

pub keeps_nothing : (s : Words) (slots : Entries) → slots ≡ [] → KeepFor s slots []
keeps_nothing s slots none = record {
  apart = apart_nil;
  each = λ slot. ap (λ l. entry_at l slot) none ∙ sym (ap (option_map (kept s)) (status_nil slot));
  count = ap length none;
}

-- ## One event more

own_status : (e : SlotEvent) (status : Option Status) → status_after e (slot_of e) status ≡ changed_by e status
own_status e status = ap (λ b. cond b (changed_by e status) status) (eq-eqb (slot_of e) (slot_of e) refl)

other_status : (e : SlotEvent) (slot : ℕ) (status : Option Status) → (slot_of e == slot) ≡ false → status_after e slot status ≡ status
other_status e slot status apart =
    ap (λ b. cond b (changed_by e status) status) (ne_eqb slot (slot_of e) (λ same. eqb-false (slot_of e) slot apart (sym same)))

module _ (s : Words) (old new : Entries) (events : List SlotEvent) (e : SlotEvent) where
  -- the entry of its own slot is as the event leaves it
  pub keeps_after : (entry : Option OpenSlot) → KeepFor s old events → ComesApart events e → PutsEntry old new (slot_of e) entry
      → entry ≡ option_map (kept s) (changed_by e (status_of events (slot_of e))) → KeepMore s new events e
  keeps_after entry keeps apart puts is = record {
    apart = apart_more events e keeps.apart apart;
    each = λ slot. puts.each slot ∙ elim (cases_Bool (slot_of e == slot)) [
      | inl here ↦
          ap (λ b. cond b entry (entry_at old slot)) here ∙ is
          ∙ ap (option_map (kept s)) (sym (status_snoc events (slot_of e) e ∙ own_status e (status_of events (slot_of e))))
          ∙ ap (λ k. option_map (kept s) (status_of (events ++ e ∷ []) k)) (eqb-true (slot_of e) slot here)
      | inr other ↦
          ap (λ b. cond b entry (entry_at old slot)) other ∙ keeps.each slot
          ∙ ap (option_map (kept s)) (sym (status_snoc events slot e ∙ other_status e slot (status_of events slot) other))
    ];
    count =
        let was : option_len (entry_at old (slot_of e)) ≡ option_len (status_of events (slot_of e)) = ap option_len (keeps.each (slot_of e)) ∙ mapped_len (kept s) (status_of events (slot_of e)) in
        let now : option_len entry ≡ option_len (status_after e (slot_of e) (status_of events (slot_of e))) = ap option_len is ∙ mapped_len (kept s) (changed_by e (status_of events (slot_of e))) ∙ ap option_len (sym (own_status e (status_of events (slot_of e)))) in
        let steps = puts.count in
        let before = keeps.count in
        let more = count_snoc events e keeps.apart apart in
        omega arith;
  }

same_entry : (slots : Entries) (slot : ℕ) → PutsEntry slots slots slot (entry_at slots slot)
same_entry slots slot = record {
  each = λ other. elim (cases_Bool (slot == other)) [
    | inl here ↦ ap (entry_at slots) (sym (eqb-true slot other here)) ∙ sym (ap (λ b. cond b (entry_at slots slot) (entry_at slots other)) here)
    | inr apart ↦ sym (ap (λ b. cond b (entry_at slots slot) (entry_at slots other)) apart)
  ];
  count = refl;
}

-- an event that changes nothing for its slot
pub keeps_still : (s : Words) (slots : Entries) (events : List SlotEvent) (e : SlotEvent) → KeepFor s slots events → ComesApart events e
    → changed_by e (status_of events (slot_of e)) ≡ status_of events (slot_of e) → KeepMore s slots events e
keeps_still s slots events e keeps apart same =
    keeps_after s slots slots events e (entry_at slots (slot_of e)) keeps apart (same_entry slots (slot_of e)) (keeps.each (slot_of e) ∙ ap (option_map (kept s)) (sym same))

-- ## Opening a slot

pub keeps_opened : (s : Words) (old new : Entries) (events : List SlotEvent) (slot : ℕ) (unavailable : Text) (call : Call)
    → KeepFor s old events → has_open false old slot ≡ false → unavailable ≡ unavailable_in s → PutsEntry old new slot (Some (fresh_entry unavailable))
    → KeepMore s new events (asked slot call)
keeps_opened s old new events slot unavailable call keeps none is puts =
    keeps_after s old new events (asked slot call) (Some (fresh_entry unavailable)) keeps (sym (open_kept false s old events slot keeps) ∙ none) puts
    (ap (λ u. Some (fresh_entry u)) is)

-- and taking that back
pub keeps_before : (s : Words) (old new : Entries) (events : List SlotEvent) (slot : ℕ) (call : Call)
    → KeepMore s old events (asked slot call) → PutsEntry old new slot None → KeepFor s new events
keeps_before s old new events slot call keeps puts =
    let e : SlotEvent = asked slot call in
    let closed : status_of events slot ≡ None = nothing_there (status_of events slot) (sym (open_by_status events slot) ∙ apart_last events e keeps.apart) in
    let opened : status_of (events ++ e ∷ []) slot ≡ Some fresh = status_snoc events slot e ∙ own_status e (status_of events slot) in
    record {
      apart = apart_front events e keeps.apart;
      each = λ other. puts.each other ∙ elim (cases_Bool (slot == other)) [
        | inl here ↦
            ap (λ b. cond b None (entry_at old other)) here
            ∙ sym (ap (λ k. option_map (kept s) (status_of events k)) (sym (eqb-true slot other here)) ∙ ap (option_map (kept s)) closed)
        | inr apart ↦
            ap (λ b. cond b None (entry_at old other)) apart ∙ keeps.each other
            ∙ ap (option_map (kept s)) (status_snoc events other e ∙ other_status e other (status_of events other) apart)
      ];
      count =
          let had : option_len (entry_at old slot) ≡ 1 = ap option_len (keeps.each slot) ∙ mapped_len (kept s) (status_of (events ++ e ∷ []) slot) ∙ ap option_len opened in
          let none : option_len (status_of events slot) ≡ 0 = ap option_len closed in
          let one : option_len (status_after e slot (status_of events slot)) ≡ 1 = ap option_len (own_status e (status_of events slot)) in
          let steps = puts.count in
          let before = keeps.count in
          let more = count_snoc events e (apart_front events e keeps.apart) (apart_last events e keeps.apart) in
          omega arith;
    }

-- ## Where a slot stands

module _ (s : Words) where
  waiting_part : (is_forgotten : Bool) (reply : Option Reply)
      → Some (standing_of (kept s (record { is_forgotten = is_forgotten; reply = reply }))) ≡ Some Waiting
      → ◌≡◌ {A = Option Status} (Some (record { is_forgotten = is_forgotten; reply = reply })) (Some fresh)
  waiting_part false None is = refl
  waiting_part true None is = absurd (cc)
  waiting_part is_forgotten (Some reply) is = absurd (cc)

  waiting_is : (status : Option Status) → option_map standing_of (option_map (kept s) status) ≡ Some Waiting → status ≡ Some fresh
  waiting_is None is = absurd (cc)
  waiting_is (Some status) is = waiting_part status.is_forgotten status.reply is

  forgotten_part : (is_forgotten : Bool) (reply : Option Reply)
      → Some (standing_of (kept s (record { is_forgotten = is_forgotten; reply = reply }))) ≡ Some Forgotten
      → ◌≡◌ {A = Option Status} (Some (record { is_forgotten = is_forgotten; reply = reply })) (Some (record { is_forgotten = true; reply = None }))
  forgotten_part false None is = absurd (cc)
  forgotten_part true None is = refl
  forgotten_part is_forgotten (Some reply) is = absurd (cc)

  forgotten_is : (status : Option Status) → option_map standing_of (option_map (kept s) status) ≡ Some Forgotten
      → status ≡ Some (record { is_forgotten = true; reply = None })
  forgotten_is None is = absurd (cc)
  forgotten_is (Some status) is = forgotten_part status.is_forgotten status.reply is

  -- a slot that has its reply
  abbrev HasReply : Option Status → Type 0
  HasReply status = ((reply : Reply) → after_reply reply status ≡ status) × (after_forgetting status ≡ None)

  replied_part : (is_forgotten : Bool) (reply : Option Reply)
      → Some (standing_of (kept s (record { is_forgotten = is_forgotten; reply = reply }))) ≡ Some Replied
      → HasReply (Some (record { is_forgotten = is_forgotten; reply = reply }))
  replied_part false None is = absurd (cc)
  replied_part true None is = absurd (cc)
  replied_part is_forgotten (Some reply) is = (λ other. refl, refl)

  replied_is : (status : Option Status) → option_map standing_of (option_map (kept s) status) ≡ Some Replied → HasReply status
  replied_is None is = absurd (cc)
  replied_is (Some status) is = replied_part status.is_forgotten status.reply is

  none_is : (status : Option Status) → option_map standing_of (option_map (kept s) status) ≡ None → status ≡ None
  none_is None is = refl
  none_is (Some status) is = absurd (cc)

-- ## Outcomes

pub ok_after : {T E : Type 0} (r : Result T E) (P Q : Type 0) → OnOk r P → (P → Q) → OnOk r Q
ok_after (Ok x) P Q p step = step p
ok_after (Err e) P Q p step = tt

pub some_after : {T : Type 0} (o : Option T) (P Q : Type 0) → OnSome o P → (P → Q) → OnSome o Q
some_after None P Q p step = tt
some_after (Some x) P Q p step = step p

-- ## Steps

module _ (s : Words) (old : Entries) (events : List SlotEvent) (slot : ℕ) where
  abbrev Stands : Option SlotStanding → Type 0
  Stands standing = option_map standing_of (entry_at old slot) ≡ standing

  at_status : (standing : Option SlotStanding) → KeepFor s old events → Stands standing → option_map standing_of (option_map (kept s) (status_of events slot)) ≡ standing
  at_status standing keeps stands = ap (option_map standing_of) (sym (keeps.each slot)) ∙ stands

  entry_is : (status : Option Status) → KeepFor s old events → status_of events slot ≡ status → entry_at old slot ≡ option_map (kept s) status
  entry_is status keeps is = keeps.each slot ∙ ap (option_map (kept s)) is

  pub waiting_is_replied : (new : Entries) (reply : Text) (point : ℕ) (answer : Told) → KeepFor s old events → Stands (Some Waiting)
      → PutsEntry old new slot (option_map (with_reply (reply, point)) (entry_at old slot)) → reply ≡ reply_in s answer
      → KeepMore s new events (replied slot answer point)
  waiting_is_replied new reply point answer keeps stands puts told =
      let is : status_of events slot ≡ Some fresh = waiting_is s (status_of events slot) (at_status (Some Waiting) keeps stands) in
      keeps_after s old new events (replied slot answer point) (option_map (with_reply (reply, point)) (entry_at old slot)) keeps tt puts
      (ap (option_map (with_reply (reply, point))) (entry_is (Some fresh) keeps is)
      ∙ ap (λ (text : Text). Some (with_reply (text, point) (kept s fresh))) told
      ∙ sym (ap (λ status. option_map (kept s) (after_reply (answer, point) status)) is))

  pub forgotten_is_replied : (new : Entries) (point : ℕ) (answer : Told) → KeepFor s old events → Stands (Some Forgotten)
      → PutsEntry old new slot None → KeepMore s new events (replied slot answer point)
  forgotten_is_replied new point answer keeps stands puts =
      let is = forgotten_is s (status_of events slot) (at_status (Some Forgotten) keeps stands) in
      keeps_after s old new events (replied slot answer point) None keeps tt puts
      (sym (ap (λ status. option_map (kept s) (after_reply (answer, point) status)) is))

  pub replied_stays : (point : ℕ) (answer : Told) → KeepFor s old events → Stands (Some Replied) → KeepMore s old events (replied slot answer point)
  replied_stays point answer keeps stands =
      keeps_still s old events (replied slot answer point) keeps tt ((replied_is s (status_of events slot) (at_status (Some Replied) keeps stands)).0 (answer, point))

  pub closed_is_replied : (point : ℕ) (answer : Told) → KeepFor s old events → Stands None → KeepMore s old events (replied slot answer point)
  closed_is_replied point answer keeps stands =
      let is = none_is s (status_of events slot) (at_status None keeps stands) in
      keeps_still s old events (replied slot answer point) keeps tt (ap (after_reply (answer, point)) is ∙ sym is)

  pub waiting_is_forgotten : (new : Entries) → KeepFor s old events → Stands (Some Waiting)
      → PutsEntry old new slot (option_map marked (entry_at old slot)) → KeepMore s new events (forgotten slot)
  waiting_is_forgotten new keeps stands puts =
      let is : status_of events slot ≡ Some fresh = waiting_is s (status_of events slot) (at_status (Some Waiting) keeps stands) in
      keeps_after s old new events (forgotten slot) (option_map marked (entry_at old slot)) keeps tt puts
      (ap (option_map marked) (entry_is (Some fresh) keeps is) ∙ sym (ap (λ status. option_map (kept s) (after_forgetting status)) is))

  pub replied_is_forgotten : (new : Entries) → KeepFor s old events → Stands (Some Replied) → PutsEntry old new slot None → KeepMore s new events (forgotten slot)
  replied_is_forgotten new keeps stands puts =
      keeps_after s old new events (forgotten slot) None keeps tt puts
      (sym (ap (option_map (kept s)) (replied_is s (status_of events slot) (at_status (Some Replied) keeps stands)).1))

  pub forgotten_stays : KeepFor s old events → Stands (Some Forgotten) → KeepMore s old events (forgotten slot)
  forgotten_stays keeps stands =
      let is = forgotten_is s (status_of events slot) (at_status (Some Forgotten) keeps stands) in
      keeps_still s old events (forgotten slot) keeps tt (ap after_forgetting is ∙ sym is)

  pub closed_is_forgotten : KeepFor s old events → Stands None → KeepMore s old events (forgotten slot)
  closed_is_forgotten keeps stands =
      let is = none_is s (status_of events slot) (at_status None keeps stands) in
      keeps_still s old events (forgotten slot) keeps tt (ap after_forgetting is ∙ sym is)

  pub taken_is_closed : (new : Entries) → KeepFor s old events → PutsEntry old new slot None → KeepMore s new events (taken slot)
  taken_is_closed new keeps puts = keeps_after s old new events (taken slot) None keeps tt puts refl

-- ## A slot whose reply is not wanted, in a broken hall

own_entry : (old new : Entries) (slot : ℕ) (entry : Option OpenSlot) → PutsEntry old new slot entry → entry_at new slot ≡ entry
own_entry old new slot entry puts = puts.each slot ∙ ap (λ b. cond b entry (entry_at old slot)) (eq-eqb slot slot refl)

marked_is_closed : (o : Option OpenSlot) → is_open_at true (option_map marked o) ≡ false
marked_is_closed None = refl
marked_is_closed (Some entry) = refl

pub closed_by_mark : (old new : Entries) (slot : ℕ) → PutsEntry old new slot (option_map marked (entry_at old slot)) → has_open true new slot ≡ false
closed_by_mark old new slot puts =
    ap (is_open_at true) (own_entry old new slot (option_map marked (entry_at old slot)) puts) ∙ marked_is_closed (entry_at old slot)

pub closed_by_closing : (old new : Entries) (slot : ℕ) → PutsEntry old new slot None → has_open true new slot ≡ false
closed_by_closing old new slot puts = ap (is_open_at true) (own_entry old new slot None puts)

forgotten_entry : (is_forgotten has_reply : Bool) → Some (cond has_reply Replied (cond is_forgotten Forgotten Waiting)) ≡ Some Forgotten → not is_forgotten ≡ false
forgotten_entry true has_reply is = refl
forgotten_entry false true is = absurd (cc)
forgotten_entry false false is = absurd (cc)

forgotten_at : (o : Option OpenSlot) → option_map standing_of o ≡ Some Forgotten → is_open_at true o ≡ false
forgotten_at None is = refl
forgotten_at (Some entry) is = forgotten_entry entry.is_forgotten (is_some entry.reply) is

pub forgotten_is_closed : (slots : Entries) (slot : ℕ) → option_map standing_of (entry_at slots slot) ≡ Some Forgotten → has_open true slots slot ≡ false
forgotten_is_closed slots slot is = forgotten_at (entry_at slots slot) is

none_at : (o : Option OpenSlot) → option_map standing_of o ≡ None → is_open_at true o ≡ false
none_at None is = refl
none_at (Some entry) is = absurd (cc)

pub none_is_closed : (slots : Entries) (slot : ℕ) → option_map standing_of (entry_at slots slot) ≡ None → has_open true slots slot ≡ false
none_is_closed slots slot is = none_at (entry_at slots slot) is

-- ## What a take gives

module _ (s : Words) (broken : Bool) (durable : ℕ) where
  tell_kept : (reply : Option Reply) → tell_entry broken durable (unavailable_in s) (option_map (told_in s) reply) ≡ option_map (told_in s) (tell broken durable reply)
  tell_kept None = otherwise broken
    where
      otherwise : (b : Bool) → cond b (Some (unavailable_in s, durable)) None ≡ option_map (told_in s) (cond b (Some (unavailable durable)) None)
      otherwise true = refl
      otherwise false = refl
  tell_kept (Some reply) = either (nat_le reply.1 durable) broken
    where
      either : (d b : Bool) → cond d (Some (told_in s reply)) (cond b (Some (unavailable_in s, durable)) None) ≡ option_map (told_in s) (cond d (Some reply) (cond b (Some (unavailable durable)) None))
      either true b = refl
      either false true = refl
      either false false = refl

  release_part : (is_forgotten : Bool) (reply : Option Reply) → released_at broken durable (Some (kept s (record { is_forgotten = is_forgotten; reply = reply })))
      ≡ option_map (told_in s) (released_by broken durable (Some (record { is_forgotten = is_forgotten; reply = reply })))
  release_part true reply = refl
  release_part false reply = tell_kept reply

  release_kept : (status : Option Status) → released_at broken durable (option_map (kept s) status) ≡ option_map (told_in s) (released_by broken durable status)
  release_kept None = refl
  release_kept (Some status) = release_part status.is_forgotten status.reply

  pub gives_released : (slots : Entries) (events : List SlotEvent) (slot : ℕ) → KeepFor s slots events
      → released_at broken durable (entry_at slots slot) ≡ option_map (told_in s) (released_in broken durable events slot)
  gives_released slots events slot keeps =
      ap (released_at broken durable) (keeps.each slot) ∙ release_kept (status_of events slot) ∙ ap (option_map (told_in s)) (sym (released_by_status broken durable events slot))
