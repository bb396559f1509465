-- Laws: how many slots are open after one event more, where each request came with a slot that was not open.
use Rattle.std.proofs.Common.{◌≡◌, ℕ, ◌+◌, ◌<◌, ◌≤◌, List, [], ◌∷◌, ◌++◌, length, take, Bool, true, false, ◌&&◌, ◌||◌, cond, refl, sym, subst, ap, ◌∙◌, ◌⊎◌, inl, inr, arith, zero-add, Option, Some, None, is_some, append_assoc, length-append, ◌==◌}
use Rattle.std.specs.Prelude.{slice_get}
use Rattle.std.specs.List.{list_any, count_by}
use Rattle.std.specs.Option.{option_len}
use Rattle.std.proofs.lemmas.List.{append-nil, take-append-le}
use Rattle.std.proofs.lemmas.List.Folds.{list_any-append}
use Rattle.std.proofs.lemmas.Bool.{false≢true, or_cases, cases_Bool, cases_lt, or_parts, eqb-true, eqb-false, ne_eqb, eq-eqb}
use Rattle.std.proofs.lemmas.Option.{none-some, slice_get_within}
use Rattle.std.proofs.Math.Seq.{take-append_seam}
use Rattle.async_core.specs.laws.Lives.{count_by-cons}
use Rattle.async_core.specs.laws.Held.{slice_get-before, slice_get-seam}
use Rattle.hall_plans.specs.Past.{SlotEvent, asked, replied, taken, forgotten}
use Rattle.hall_plans.specs.Slots.{Reply, asks, takes, forgets, reply_by, closes, open_among, is_open_in}
use Rattle.hall_plans.specs.Status.{Status, status_of, slot_of, status_after, ComesApart, AreApart}
use Rattle.hall_plans.specs.laws.Statuses.{fewer, open_by_status, status_snoc}

-- ## Requests that came with slots that were not open

pub apart_front : (events : List SlotEvent) (e : SlotEvent) → AreApart (events ++ e ∷ []) → AreApart events
apart_front events e apart = record {
  each = λ n d found.
      let lt : n < length events = slice_get_within events n d found in
      let front : take n (events ++ e ∷ []) ≡ take n events = take-append-le n events (e ∷ []) (omega arith) in
      subst (λ before. ComesApart before d) front (apart.each n d (slice_get-before events (e ∷ []) n lt ∙ found));
}

pub apart_last : (events : List SlotEvent) (e : SlotEvent) → AreApart (events ++ e ∷ []) → ComesApart events e
apart_last events e apart =
    subst (λ before. ComesApart before e) (take-append_seam events (e ∷ [])) (apart.each (length events) e (slice_get-seam events e))

pub apart_nil : AreApart []
apart_nil = record { each = λ n d found. absurd (none-some d found) }

same_event : (x y : SlotEvent) → Some x ≡ Some y → x ≡ y
same_event x y h = cc

more_at : (events : List SlotEvent) (e : SlotEvent) → AreApart events → ComesApart events e → (n : ℕ) (d : SlotEvent)
    → slice_get (events ++ e ∷ []) n ≡ Some d → (n < length events) ⊎ (length events ≤ n) → ComesApart (take n (events ++ e ∷ [])) d
more_at events e apart last n d found (inl lt) =
    let front : take n (events ++ e ∷ []) ≡ take n events = take-append-le n events (e ∷ []) (omega arith) in
    subst (λ before. ComesApart before d) (sym front) (apart.each n d (sym (slice_get-before events (e ∷ []) n lt) ∙ found))
more_at events e apart last n d found (inr le) =
    let inside : n < length (events ++ e ∷ []) = slice_get_within (events ++ e ∷ []) n d found in
    let place : n ≡ length events = omega (arith, length-append events (e ∷ [])) in
    let is : e ≡ d = same_event e d (sym (slice_get-seam events e) ∙ ap (slice_get (events ++ e ∷ [])) (sym place) ∙ found) in
    subst (λ before. ComesApart before d) (sym (ap (λ k. take k (events ++ e ∷ [])) place ∙ take-append_seam events (e ∷ []))) (subst (λ event. ComesApart events event) is last)

-- one event more
pub apart_more : (events : List SlotEvent) (e : SlotEvent) → AreApart events → ComesApart events e → AreApart (events ++ e ∷ [])
apart_more events e apart last = record { each = λ n d found. more_at events e apart last n d found (cases_lt n (length events)) }

snoc_from : (P : List SlotEvent → Type 0) → ((events : List SlotEvent) (e : SlotEvent) → P events → P (events ++ e ∷ [])) → (events later : List SlotEvent) → P events → P (events ++ later)
snoc_from P step events [] p = subst P (sym (append-nil events)) p
snoc_from P step events (e ∷ later) p = subst P (append_assoc events (e ∷ []) later) (snoc_from P step (events ++ e ∷ []) later (step events e p))

-- by the last event of such a list
pub apartly : (P : List SlotEvent → Type 0) → P [] → ((events : List SlotEvent) (e : SlotEvent) → ComesApart events e → P events → P (events ++ e ∷ []))
    → (events : List SlotEvent) → AreApart events → P events
apartly P none step events =
    snoc_from (λ l. AreApart l → P l) (λ l e ih apart. step l e (apart_last l e apart) (ih (apart_front l e apart))) [] events (λ apart. none)

-- ## How often a slot is among the open ones

-- 1 where this is so
abbrev pub one_if : Bool → ℕ
one_if b = cond b 1 0

-- how many of these are this slot
abbrev pub times : ℕ → List ℕ → ℕ
times slot slots = count_by (λ other. slot == other) slots

-- an event more closes no fewer slots
closes_more : (b : Bool) (slot : ℕ) (later : List SlotEvent) (e : SlotEvent) → closes b slot (later ++ e ∷ []) ≡ false → closes b slot later ≡ false
closes_more b slot later e unclosed = fewer _ _ b _ _ _ _ (part (takes slot)) (part (forgets slot)) (part (λ x. is_some (reply_by slot x))) unclosed
  where
    part : (p : SlotEvent → Bool) → list_any p (later ++ e ∷ []) ≡ false → list_any p later ≡ false
    part p none = (or_parts (list_any p later) (list_any p (e ∷ [])) (sym (list_any-append p later (e ∷ [])) ∙ none)).0

-- an event closes no other slot
spared : (slot : ℕ) (e : SlotEvent) → (slot == slot_of e) ≡ false → (takes slot e ≡ false) × (forgets slot e ≡ false) × (is_some {T = Reply} (reply_by slot e) ≡ false)
spared slot (asked other call) apart = (refl, refl, refl)
spared slot (replied other answer point) apart = (refl, refl, ap (λ b. is_some {T = Reply} (cond b (Some (answer, point)) None)) apart)
spared slot (taken other) apart = (apart, refl, refl)
spared slot (forgotten other) apart = (refl, apart, refl)

without : (p : SlotEvent → Bool) (later : List SlotEvent) (e : SlotEvent) → p e ≡ false → list_any p (later ++ e ∷ []) ≡ list_any p later
without p later e none = list_any-append p later (e ∷ []) ∙ ap (λ b. list_any p later || (b || false)) none ∙ alone (list_any p later)
  where
    alone : (b : Bool) → (b || (false || false)) ≡ b
    alone true = refl
    alone false = refl

closes_apart : (b : Bool) (slot : ℕ) (later : List SlotEvent) (e : SlotEvent) → (slot == slot_of e) ≡ false → closes b slot (later ++ e ∷ []) ≡ closes b slot later
closes_apart b slot later e apart =
    let none = spared slot e apart in
    rw (without (takes slot) later e none.0, without (forgets slot) later e none.1, without (λ x. is_some (reply_by slot x)) later e none.2) refl

-- none of them where the list is free of it
times_none : (slot : ℕ) (slots : List ℕ) → list_any (λ other. slot == other) slots ≡ false → times slot slots ≡ 0
times_none slot [] none = refl
times_none slot (x ∷ slots) none =
    let parts = or_parts (slot == x) (list_any (λ other. slot == other) slots) none in
    count_by-cons (λ other. slot == other) x slots
    ∙ ap (λ b. one_if b + times slot slots) parts.0
    ∙ ap (λ n. 0 + n) (times_none slot slots parts.1)

times_some : (slot : ℕ) (slots : List ℕ) → list_any (λ other. slot == other) slots ≡ true → 0 < times slot slots
times_some slot [] some = absurd (false≢true some)
times_some slot (x ∷ slots) some =
    let is : times slot (x ∷ slots) ≡ cond (slot == x) 1 0 + times slot slots = count_by-cons (λ other. slot == other) x slots in
    elim (or_cases (slot == x) (list_any (λ other. slot == other) slots) some) [
      | inl here ↦ let one : one_if (slot == x) ≡ 1 = ap one_if here in omega arith
      | inr later ↦ let more : 0 < times slot slots = times_some slot slots later in omega arith
    ]

-- one request more in front of what is open
front_times : (slot : ℕ) (c : Bool) (other : ℕ) (slots : List ℕ) → times slot (cond c slots (other ∷ slots)) ≡ cond c 0 (cond (slot == other) 1 0) + times slot slots
front_times slot true other slots = sym (zero-add (times slot slots))
front_times slot false other slots = count_by-cons (λ o. slot == o) other slots

front_length : (c : Bool) (other : ℕ) (slots : List ℕ) → length (cond c slots (other ∷ slots)) ≡ cond c 0 1 + length slots
front_length true other slots = sym (zero-add (length slots))
front_length false other slots = omega arith

flipped : (a b : ℕ) → (b == a) ≡ false → (a == b) ≡ false
flipped a b apart = ne_eqb a b (λ same. eqb-false b a apart (sym same))

-- ## One event more

-- an event adds a slot once where it is a request, and closes but its own
module _ (e : SlotEvent) where
  -- its own slot aside, as many are open as before
  abbrev OthersStay : List SlotEvent → Type 0
  OthersStay events =
      length (open_among false (events ++ e ∷ [])) + times (slot_of e) (open_among false events)
      ≡ length (open_among false events) + times (slot_of e) (open_among false (events ++ e ∷ []))

  others_alone : OthersStay []
  others_alone = alone e
    where
      alone : (event : SlotEvent) → length (open_among false (event ∷ [])) + times (slot_of event) [] ≡ length {A = ℕ} [] + times (slot_of event) (open_among false (event ∷ []))
      alone (asked slot call) =
          let is : times slot (slot ∷ []) ≡ one_if (slot == slot) + times slot [] = count_by-cons (λ other. slot == other) slot [] in
          let one : one_if (slot == slot) ≡ 1 = ap one_if (eq-eqb slot slot refl) in
          omega arith
      alone (replied slot answer point) = refl
      alone (taken slot) = refl
      alone (forgotten slot) = refl

  -- a request in front, which the event closes or not
  request_front : (slot : ℕ) (c d : Bool) (here : Bool) (before after : List ℕ) → (slot_of e == slot) ≡ here → (here ≡ false → c ≡ d)
      → length after + times (slot_of e) before ≡ length before + times (slot_of e) after
      → length (cond c after (slot ∷ after)) + times (slot_of e) (cond d before (slot ∷ before))
      ≡ length (cond d before (slot ∷ before)) + times (slot_of e) (cond c after (slot ∷ after))
  request_front slot c d true before after is same others =
      let a = front_length c slot after in
      let b = front_length d slot before in
      let x : times (slot_of e) (cond c after (slot ∷ after)) ≡ cond c 0 1 + times (slot_of e) after = front_times (slot_of e) c slot after ∙ ap (λ h. cond c 0 (one_if h) + times (slot_of e) after) is in
      let y : times (slot_of e) (cond d before (slot ∷ before)) ≡ cond d 0 1 + times (slot_of e) before = front_times (slot_of e) d slot before ∙ ap (λ h. cond d 0 (one_if h) + times (slot_of e) before) is in
      omega arith
  request_front slot c d false before after is same others =
      let a = front_length c slot after in
      let b = front_length d slot before in
      let f : cond {A = ℕ} c 0 1 ≡ cond {A = ℕ} d 0 1 = ap (λ x. cond {A = ℕ} x 0 1) (same refl) in
      let x : times (slot_of e) (cond c after (slot ∷ after)) ≡ times (slot_of e) after = front_times (slot_of e) c slot after ∙ ap (λ h. cond c 0 (one_if h) + times (slot_of e) after) is ∙ none c (times (slot_of e) after) in
      let y : times (slot_of e) (cond d before (slot ∷ before)) ≡ times (slot_of e) before = front_times (slot_of e) d slot before ∙ ap (λ h. cond d 0 (one_if h) + times (slot_of e) before) is ∙ none d (times (slot_of e) before) in
      omega arith
    where
      none : (x : Bool) (n : ℕ) → cond x 0 (cond false 1 0) + n ≡ n
      none true n = zero-add n
      none false n = zero-add n

  others_stay : (events : List SlotEvent) → OthersStay events
  others_stay [] = others_alone
  others_stay (asked slot call ∷ later) =
      request_front slot (closes false slot (later ++ e ∷ [])) (closes false slot later) (slot_of e == slot) (open_among false later) (open_among false (later ++ e ∷ [])) refl
      (λ apart. closes_apart false slot later e (flipped slot (slot_of e) apart))
      (others_stay later)
  others_stay (replied slot answer point ∷ later) = others_stay later
  others_stay (taken slot ∷ later) = others_stay later
  others_stay (forgotten slot ∷ later) = others_stay later

  -- only a request opens a slot, and once
  no_more : (slot : ℕ) (events : List SlotEvent) → times slot (open_among false (events ++ e ∷ [])) ≤ times slot (open_among false events) + cond (asks slot e) 1 0
  no_more slot [] = alone e
    where
      alone : (event : SlotEvent) → times slot (open_among false (event ∷ [])) ≤ 0 + cond (asks slot event) 1 0
      alone (asked other call) = omega arith
      alone (replied other answer point) = omega arith
      alone (taken other) = omega arith
      alone (forgotten other) = omega arith
  no_more slot (asked other call ∷ later) =
      elim (cases_Bool (closes false other (later ++ e ∷ []))) [
        | inl closed ↦
            let is : times slot (cond (closes false other (later ++ e ∷ [])) (open_among false (later ++ e ∷ [])) (other ∷ open_among false (later ++ e ∷ []))) ≡ times slot (open_among false (later ++ e ∷ []))
            = ap (λ c. times slot (cond c (open_among false (later ++ e ∷ [])) (other ∷ open_among false (later ++ e ∷ [])))) closed in
            let ih = no_more slot later in
            let here = front_times slot (closes false other later) other (open_among false later) in
            omega arith
        | inr unclosed ↦
            let before : closes false other later ≡ false = closes_more false other later e unclosed in
            let is = front_times slot (closes false other (later ++ e ∷ [])) other (open_among false (later ++ e ∷ [])) ∙ ap (λ c. cond c 0 (cond (slot == other) 1 0) + times slot (open_among false (later ++ e ∷ []))) unclosed in
            let was = front_times slot (closes false other later) other (open_among false later) ∙ ap (λ c. cond c 0 (cond (slot == other) 1 0) + times slot (open_among false later)) before in
            let ih = no_more slot later in
            omega arith
      ]
  no_more slot (replied other answer point ∷ later) = no_more slot later
  no_more slot (taken other ∷ later) = no_more slot later
  no_more slot (forgotten other ∷ later) = no_more slot later

-- ## Open slots stand once

not_there : (slot : ℕ) (events : List SlotEvent) (e : SlotEvent) → ComesApart events e → asks slot e ≡ true → times slot (open_among false events) ≡ 0
not_there slot events (asked other call) apart here =
    times_none slot (open_among false events) (subst (λ o. is_open_in false events o ≡ false) (sym (eqb-true slot other here)) apart)
not_there slot events (replied other answer point) apart here = absurd (false≢true here)
not_there slot events (taken other) apart here = absurd (false≢true here)
not_there slot events (forgotten other) apart here = absurd (false≢true here)

at_most_once : (slot : ℕ) (events : List SlotEvent) → AreApart events → times slot (open_among false events) ≤ 1
at_most_once slot =
    apartly (λ events. times slot (open_among false events) ≤ 1) (omega arith)
    (λ events e apart once. elim (cases_Bool (asks slot e)) [
      | inl here ↦
          let none = not_there slot events e apart here in
          let one : one_if (asks slot e) ≡ 1 = ap one_if here in
          let more = no_more e slot events in
          omega arith
      | inr other ↦
          let one : one_if (asks slot e) ≡ 0 = ap one_if other in
          let more = no_more e slot events in
          omega arith
    ])

-- in a broken hall as many are open, or fewer
closes_too : (t f b r : Bool) → (t || (f && (b || r))) ≡ false → (t || (f && (false || r))) ≡ false
closes_too false false b r unclosed = refl
closes_too false true false r unclosed = unclosed
closes_too false true true r unclosed = absurd (false≢true (sym unclosed))
closes_too true f b r unclosed = absurd (false≢true (sym unclosed))

unclosed_too : (b : Bool) (slot : ℕ) (events : List SlotEvent) → closes b slot events ≡ false → closes false slot events ≡ false
unclosed_too b slot events =
    closes_too (list_any (takes slot) events) (list_any (forgets slot) events) b (list_any (λ x. is_some {T = Reply} (reply_by slot x)) events)

-- a request in front counts no more where it is closed wherever the other is
no_more_in_front : (c d : Bool) (n : ℕ) → (c ≡ false → d ≡ false) → cond {A = ℕ} c 0 n ≤ cond {A = ℕ} d 0 n
no_more_in_front true d n too = omega arith
no_more_in_front false d n too = subst (λ x. n ≤ cond {A = ℕ} x 0 n) (sym (too refl)) (omega arith)

no_more_open : (b : Bool) (slot : ℕ) (events : List SlotEvent) → times slot (open_among b events) ≤ times slot (open_among false events)
no_more_open b slot [] = omega arith
no_more_open b slot (asked other call ∷ later) =
    let more = no_more_open b slot later in
    let is = front_times slot (closes b other later) other (open_among b later) in
    let was = front_times slot (closes false other later) other (open_among false later) in
    let front = no_more_in_front (closes b other later) (closes false other later) (cond (slot == other) 1 0) (unclosed_too b other later) in
    omega arith
no_more_open b slot (replied other answer point ∷ later) = no_more_open b slot later
no_more_open b slot (taken other ∷ later) = no_more_open b slot later
no_more_open b slot (forgotten other ∷ later) = no_more_open b slot later

-- a slot is among the open ones once where it is open
pub times_open : (b : Bool) (slot : ℕ) (events : List SlotEvent) → AreApart events → times slot (open_among b events) ≡ one_if (is_open_in b events slot)
times_open b slot events apart =
    elim (cases_Bool (is_open_in b events slot)) [
      | inl here ↦
          let most = at_most_once slot events apart in
          let fewer = no_more_open b slot events in
          let least = times_some slot (open_among b events) here in
          let one : one_if (is_open_in b events slot) ≡ 1 = ap one_if here in
          omega arith
      | inr none ↦ times_none slot (open_among b events) none ∙ sym (ap one_if none)
    ]

counted : (o : Option Status) → option_len o ≡ cond (is_some o) 1 0
counted None = refl
counted (Some status) = refl

-- a slot is among the open ones once where it has a status
times_by_status : (slot : ℕ) (events : List SlotEvent) → AreApart events → times slot (open_among false events) ≡ option_len (status_of events slot)
times_by_status slot events apart =
    elim (cases_Bool (is_open_in false events slot)) [
      | inl here ↦
          let most = at_most_once slot events apart in
          let least = times_some slot (open_among false events) here in
          let one : option_len (status_of events slot) ≡ 1 = counted (status_of events slot) ∙ ap one_if (sym (open_by_status events slot) ∙ here) in
          omega arith
      | inr none ↦
          times_none slot (open_among false events) none
          ∙ sym (counted (status_of events slot) ∙ ap one_if (sym (open_by_status events slot) ∙ none))
    ]

-- how many slots are open after one event more, by what became of its own slot
pub count_snoc : (events : List SlotEvent) (e : SlotEvent) → AreApart events → ComesApart events e
    → length (open_among false (events ++ e ∷ [])) + option_len (status_of events (slot_of e))
    ≡ length (open_among false events) + option_len (status_after e (slot_of e) (status_of events (slot_of e)))
count_snoc events e apart last =
    let was = times_by_status (slot_of e) events apart in
    let is : times (slot_of e) (open_among false (events ++ e ∷ [])) ≡ option_len (status_after e (slot_of e) (status_of events (slot_of e)))
    = times_by_status (slot_of e) (events ++ e ∷ []) (apart_more events e apart last) ∙ ap option_len (status_snoc events (slot_of e) e) in
    let others = others_stay e events in
    omega arith
