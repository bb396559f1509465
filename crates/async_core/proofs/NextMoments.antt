-- Until the next moment each event moves as it does now, and then one does not.
use Rattle.std.proofs.Common.{◌≡◌, ℕ, ◌+◌, ◌≤◌, ◌<◌, List, Bool, true, false, Option, Some, None, refl, sym, ap, ◌∙◌, subst, arith, ◌⊎◌, inl, inr, All, Contains, get_or, cond, nat_le, min}
use Rattle.std.specs.Prelude.{is_some}
use Rattle.std.proofs.lemmas.Bool.{true≢false, leb-true, leb-false, le-leb, lt-leb}
use Rattle.invoke_records.specs.declared.command.Kind.{Kind}
use Rattle.invoke_records.specs.declared.command.Kind.TheVariants.{Start, Fail, Expire}
use Rattle.invoke_records.specs.declared.command.Cause.TheVariants.{Timeout}
use Rattle.invoke_records.specs.declared.row.EventRow.{EventRow}
use Rattle.invoke_records.specs.declared.row.Standing.{Standing}
use Rattle.invoke_records.specs.declared.row.Standing.TheVariants as standing
use Rattle.async_core.specs.declared.keys.Index.{Index}
use Rattle.async_core.specs.declared.keys.Index.TheVariants.{Ripe, Idle}
use Rattle.async_core.specs.Choice.{NotBefore, move_when_due, move_by, ripe_by}
use Rattle.async_core.specs.Keys.{facts_of, key_in, key_within, row_key, ripe_key, idle_key}
use Rattle.async_core.specs.NextMoment.{MovesAlike, IsNextMoment, IsFirstSeen, ripe_of, earlier}
use Rattle.async_core.specs.Rules.{too_old_at}

-- ## Moments that are not between two others

-- this moment is no later than now, or it is after the later one
abbrev Apart : ℕ → ℕ → ℕ → Type 0
Apart now later moment = (moment ≤ now) ⊎ (later < moment)

-- so it has come at both, or at neither
same_test : (now later moment : ℕ) → now ≤ later → Apart now later moment → nat_le moment later ≡ nat_le moment now
same_test now later moment le (inl before) = le-leb moment later (omega arith) ∙ sym (le-leb moment now before)
same_test now later moment le (inr after) = lt-leb moment later after ∙ sym (lt-leb moment now (omega arith))

due_apart : (now later too_old due : ℕ) → now ≤ later → later < too_old → Apart now later (min due too_old) → Apart now later due
due_apart now later too_old due le young (inl before) = inl (omega arith)
due_apart now later too_old due le young (inr after) = inr (omega arith)

waiting_alike : (is_full has_ready : Bool) (now later too_old due : ℕ) → now ≤ later → Apart now later too_old → Apart now later (min due too_old)
    → move_when_due is_full has_ready too_old later due ≡ move_when_due is_full has_ready too_old now due
waiting_alike is_full has_ready now later too_old due le (inl old) ripe =
    let old_later : nat_le too_old later ≡ true = le-leb too_old later (omega arith) in
    let old_now : nat_le too_old now ≡ true = le-leb too_old now old in
    rw (old_later, old_now) refl
waiting_alike is_full has_ready now later too_old due le (inr young) ripe =
    let old_later : nat_le too_old later ≡ false = lt-leb too_old later young in
    let old_now : nat_le too_old now ≡ false = lt-leb too_old now (omega arith) in
    let due_same : nat_le due later ≡ nat_le due now = same_test now later due le (due_apart now later too_old due le young ripe) in
    rw (old_later, old_now, due_same) refl

running_alike : (now later deadline : ℕ) (kind : Kind) → now ≤ later → Apart now later deadline
    → cond (nat_le deadline later) (Some kind) None ≡ cond (nat_le deadline now) (Some kind) None
running_alike now later deadline kind le apart = ap (λ b. cond b (Some kind) None) (same_test now later deadline le apart)

-- ## Keys that are not between two moments

abbrev IsClear : ℕ → ℕ → Option (ℕ × ℕ) → Type 0
IsClear now later None = Unit {0}
IsClear now later (Some key) = Apart now later key.0

alike : (now later : ℕ) (r : EventRow) (st : Standing) (is_full has_ready : Bool) → now ≤ later → IsClear now later (ripe_key (facts_of r) st) → IsClear now later (idle_key (facts_of r) st)
    → move_by is_full has_ready (too_old_at r) later st ≡ move_by is_full has_ready (too_old_at r) now st
alike now later r standing.Unknown is_full has_ready le ripe idle = refl
alike now later r (standing.Waiting due) is_full has_ready le ripe idle = waiting_alike is_full has_ready now later (too_old_at r) due le idle ripe
alike now later r (standing.DueAgain due) is_full has_ready le ripe idle = waiting_alike is_full has_ready now later (too_old_at r) due le idle ripe
alike now later r (standing.Running environment deadline) is_full has_ready le ripe idle = running_alike now later deadline (Fail Timeout) le ripe
alike now later r (standing.Ended outcome at) is_full has_ready le ripe idle = refl

-- where there is no key from a moment on
clear_none : (now later low : ℕ) (o : Option (ℕ × ℕ)) → low ≡ now + 1 → key_within low None o ≡ None → IsClear now later o
clear_none now later low None is none = tt
clear_none now later low (Some key) is none = by_test (nat_le low key.0) refl
  where
    by_test : (b : Bool) → nat_le low key.0 ≡ b → Apart now later key.0
    by_test true within = absurd (true≢false (ap (λ b. is_some (cond b (Some key) None)) (sym within) ∙ ap is_some none))
    by_test false within = inl (omega (arith, leb-false low key.0 within))

at_least : (k key : ℕ × ℕ) → NotBefore k (Some key) → k.0 ≤ key.0
at_least k key (inl lt) = omega arith
at_least k key (inr same) = omega (arith, same.0)

-- before the least key from a moment on
clear_before : (now later low : ℕ) (k : ℕ × ℕ) (o : Option (ℕ × ℕ)) → low ≡ now + 1 → NotBefore k (key_within low None o) → later < k.0 → IsClear now later o
clear_before now later low k None is least lt = tt
clear_before now later low k (Some key) is least lt = by_test (nat_le low key.0) refl
  where
    by_test : (b : Bool) → nat_le low key.0 ≡ b → Apart now later key.0
    by_test true within = inr (omega (arith, at_least k key (subst (λ b. NotBefore k (cond b (Some key) None)) within least)))
    by_test false within = inl (omega (arith, leb-false low key.0 within))

same_key : (key at : ℕ × ℕ) (low : ℕ) → Some key ≡ Some at → low ≤ key.0 → (Some key ≡ Some at) × (low ≤ at.0)
same_key key at low is le = (is, subst (λ (k : ℕ × ℕ). low ≤ k.0) (some_same is) le)
  where
    some_same : {x y : ℕ × ℕ} → Some x ≡ Some y → x ≡ y
    some_same h = cc

-- what is within the bounds is the key, from that moment on
within_is : (low : ℕ) (at : ℕ × ℕ) (o : Option (ℕ × ℕ)) → key_within low None o ≡ Some at → (o ≡ Some at) × (low ≤ at.0)
within_is low at None h = absurd (true≢false (sym (ap is_some h)))
within_is low at (Some key) h = by_test (nat_le low key.0) refl
  where
    by_test : (b : Bool) → nat_le low key.0 ≡ b → (Some key ≡ Some at) × (low ≤ at.0)
    by_test true within = same_key key at low (subst (λ b. cond b (Some key) None ≡ Some at) within h) (leb-true low key.0 within)
    by_test false within = absurd (true≢false (sym (ap is_some (subst (λ b. cond b (Some key) None ≡ Some at) within h))))

-- ## What is seen of a key is its moment

first_is : (n m : ℕ) (at : ℕ × ℕ) → Some (n, m) ≡ Some at → n ≡ at.0
first_is n m at h = let is : (n, m) ≡ at = cc in ap (λ (p : ℕ × ℕ). p.0) is

no_key : (at : ℕ × ℕ) (P : Type 0) → None ≡ Some at → P
no_key at P h = absurd (true≢false (sym (ap is_some h)))

ripe_seen : (r : EventRow) (st : Standing) (at : ℕ × ℕ) → ripe_key (facts_of r) st ≡ Some at → ripe_by (too_old_at r) st ≡ at.0
ripe_seen r standing.Unknown at h = no_key at _ h
ripe_seen r (standing.Waiting due) at h = first_is (min due (too_old_at r)) r.number at h
ripe_seen r (standing.DueAgain due) at h = first_is (min due (too_old_at r)) r.number at h
ripe_seen r (standing.Running environment deadline) at h = first_is deadline r.number at h
ripe_seen r (standing.Ended outcome ended) at h = no_key at _ h

idle_seen : (r : EventRow) (st : Standing) (at : ℕ × ℕ) → idle_key (facts_of r) st ≡ Some at → too_old_at r ≡ at.0
idle_seen r standing.Unknown at h = no_key at _ h
idle_seen r (standing.Waiting due) at h = first_is (too_old_at r) 0 at h
idle_seen r (standing.DueAgain due) at h = first_is (too_old_at r) 0 at h
idle_seen r (standing.Running environment deadline) at h = no_key at _ h
idle_seen r (standing.Ended outcome ended) at h = no_key at _ h

-- ## Until then each moves alike

-- a moment is before what was seen, if something was
abbrev IsBefore : ℕ → Option ℕ → Type 0
IsBefore later None = Unit {0}
IsBefore later (Some x) = later < x

-- what is seen of a row is the moment of its key in an index
abbrev Sees : Index → (EventRow → ℕ) → Type 0
Sees i view = (r : EventRow) (at : ℕ × ℕ) → key_in (facts_of r) i ≡ Some at → view r ≡ at.0

module _ (i : Index) (view : EventRow → ℕ) (sees : Sees i view) (rows : List EventRow) (now low : ℕ) (is : low ≡ now + 1) where
  clear_rows : (later : ℕ) (seen : Option ℕ) → IsFirstSeen (row_key i low None) rows view seen → IsBefore later seen → All (λ r. IsClear now later (key_in (facts_of r) i)) rows
  clear_rows later None none before = λ k d lt. clear_none now later low (key_in (facts_of (get_or rows k d)) i) is (none k d lt)
  clear_rows later (Some x) first before =
      let row = first.0 in
      let least = first.2 in
      let key = within_is low least.at (key_in (facts_of row) i) least.has in
      let moment : x ≡ least.at.0 = first.1 ∙ sees row least.at key.0 in
      let before_key : later < least.at.0 = omega arith in
      λ k d lt. clear_before now later low least.at (key_in (facts_of (get_or rows k d)) i) is (least.least k d lt) before_key

  -- the row that is seen, with the moment of its key, which is after now
  seen_row : (x : ℕ) → IsFirstSeen (row_key i low None) rows view (Some x) → (row : EventRow) × Contains rows row × ((at : ℕ × ℕ) × (key_in (facts_of row) i ≡ Some at) × (x ≡ view row) × (now < x))
  seen_row x first =
      let row = first.0 in
      let least = first.2 in
      let key = within_is low least.at (key_in (facts_of row) i) least.has in
      let moment : x ≡ least.at.0 = first.1 ∙ sees row least.at key.0 in
      let from : low ≤ least.at.0 = key.1 in
      (row, least.is_there, (least.at, key.0, first.1, omega arith))

ripe_sees : Sees Ripe ripe_of
ripe_sees r at h = ripe_seen r r.standing at h

idle_sees : Sees Idle too_old_at
idle_sees r at h = idle_seen r r.standing at h

-- ## Then one does not

some_none : (k : Kind) → Some k ≡ None → ⊥
some_none k h = true≢false (ap is_some h)

running_turns : (now deadline x : ℕ) (k : Kind) → x ≡ deadline → now < x → cond (nat_le deadline x) (Some k) None ≡ cond (nat_le deadline now) (Some k) None → ⊥
running_turns now deadline x k is lt same =
    let then_late : nat_le deadline x ≡ true = le-leb deadline x (omega arith) in
    let now_late : nat_le deadline now ≡ false = lt-leb deadline now (omega arith) in
    some_none k (sym (ap (λ b. cond b (Some k) None) then_late) ∙ same ∙ ap (λ b. cond b (Some k) None) now_late)

nothing_yet : (now too_old due : ℕ) → now < too_old → now < due → move_when_due false true too_old now due ≡ None
nothing_yet now too_old due young early =
    let not_old : nat_le too_old now ≡ false = lt-leb too_old now young in
    let not_due : nat_le due now ≡ false = lt-leb due now early in
    rw (not_old, not_due) refl

something_then : (x too_old due : ℕ) → x ≡ min due too_old → (k : Kind) × (move_when_due false true too_old x due ≡ Some k)
something_then x too_old due is = by_test (nat_le too_old x) refl
  where
    by_test : (b : Bool) → nat_le too_old x ≡ b → (k : Kind) × (move_when_due false true too_old x due ≡ Some k)
    by_test true old = (Expire, rw old refl)
    by_test false young =
        let later : x < too_old = leb-false too_old x young in
        let is_due : nat_le due x ≡ true = le-leb due x (omega arith) in
        (Start, rw (young, is_due) refl)

waiting_turns : (now too_old due x : ℕ) → x ≡ min due too_old → now < x → move_when_due false true too_old x due ≡ move_when_due false true too_old now due → ⊥
waiting_turns now too_old due x is lt same =
    let moves = something_then x too_old due is in
    some_none moves.0 (sym moves.1 ∙ same ∙ nothing_yet now too_old due (omega arith) (omega arith))

ripe_turns : (now x : ℕ) (r : EventRow) (st : Standing) (at : ℕ × ℕ) → ripe_key (facts_of r) st ≡ Some at → x ≡ ripe_by (too_old_at r) st → now < x
    → move_by false true (too_old_at r) x st ≡ move_by false true (too_old_at r) now st → ⊥
ripe_turns now x r standing.Unknown at h is lt same = no_key at _ h
ripe_turns now x r (standing.Waiting due) at h is lt same = waiting_turns now (too_old_at r) due x is lt same
ripe_turns now x r (standing.DueAgain due) at h is lt same = waiting_turns now (too_old_at r) due x is lt same
ripe_turns now x r (standing.Running environment deadline) at h is lt same = running_turns now deadline x (Fail Timeout) is lt same
ripe_turns now x r (standing.Ended outcome ended) at h is lt same = no_key at _ h

expire_start : Some Expire ≡ Some Start → ⊥
expire_start h = cc

-- what is not too old would be started, or waits
expiry_turns : (now too_old due x : ℕ) → x ≡ too_old → now < x → move_when_due false true too_old x due ≡ move_when_due false true too_old now due → ⊥
expiry_turns now too_old due x is lt same = by_test (nat_le due now) refl
  where
    expires : move_when_due false true too_old x due ≡ Some Expire
    expires = let old : nat_le too_old x ≡ true = le-leb too_old x (omega arith) in rw old refl

    by_test : (b : Bool) → nat_le due now ≡ b → ⊥
    by_test true is_due =
        let young : nat_le too_old now ≡ false = lt-leb too_old now (omega arith) in
        let starts : move_when_due false true too_old now due ≡ Some Start = rw (young, is_due) refl in
        expire_start (sym expires ∙ same ∙ starts)
    by_test false early = some_none Expire (sym expires ∙ same ∙ nothing_yet now too_old due (omega arith) (leb-false due now early))

idle_turns : (now x : ℕ) (r : EventRow) (st : Standing) (at : ℕ × ℕ) → idle_key (facts_of r) st ≡ Some at → x ≡ too_old_at r → now < x
    → move_by false true (too_old_at r) x st ≡ move_by false true (too_old_at r) now st → ⊥
idle_turns now x r standing.Unknown at h is lt same = no_key at _ h
idle_turns now x r (standing.Waiting due) at h is lt same = expiry_turns now (too_old_at r) due x is lt same
idle_turns now x r (standing.DueAgain due) at h is lt same = expiry_turns now (too_old_at r) due x is lt same
idle_turns now x r (standing.Running environment deadline) at h is lt same = no_key at _ h
idle_turns now x r (standing.Ended outcome ended) at h is lt same = no_key at _ h

-- ## The next moment

-- an event turns at this moment, which is after now
abbrev Turns : List EventRow → ℕ → ℕ → Type 0
Turns rows now x = (now < x) × ((row : EventRow) × Contains rows row × (MovesAlike now x row → ⊥))

at_lesser : (P : ℕ → Type 0) (a b : ℕ) → P a → P b → P (min a b)
at_lesser P a b pa pb = by_test (nat_le a b) refl
  where
    by_test : (t : Bool) → nat_le a b ≡ t → P (min a b)
    by_test true le = let is : a ≡ min a b = omega (arith, leb-true a b le) in subst P is pa
    by_test false gt = let is : b ≡ min a b = omega (arith, leb-false a b gt) in subst P is pb

module _ (rows : List EventRow) (now low : ℕ) (is : low ≡ now + 1) where
  steady : (ripe idle : Option ℕ) → IsFirstSeen (row_key Ripe low None) rows ripe_of ripe → IsFirstSeen (row_key Idle low None) rows too_old_at idle
      → (later : ℕ) → now ≤ later → IsBefore later ripe → IsBefore later idle → All (MovesAlike now later) rows
  steady ripe idle first_ripe first_idle later le before_ripe before_idle = λ k d lt is_full has_ready.
      let r = get_or rows k d in
      alike now later r r.standing is_full has_ready le
      (clear_rows Ripe ripe_of ripe_sees rows now low is later ripe first_ripe before_ripe k d lt)
      (clear_rows Idle too_old_at idle_sees rows now low is later idle first_idle before_idle k d lt)

  ripe_row_turns : (x : ℕ) → IsFirstSeen (row_key Ripe low None) rows ripe_of (Some x) → Turns rows now x
  ripe_row_turns x first =
      let seen = seen_row Ripe ripe_of ripe_sees rows now low is x first in
      let row = seen.0 in
      let key = seen.2 in
      (key.3, (row, seen.1, λ same. ripe_turns now x row row.standing key.0 key.1 key.2 key.3 (same false true)))

  idle_row_turns : (x : ℕ) → IsFirstSeen (row_key Idle low None) rows too_old_at (Some x) → Turns rows now x
  idle_row_turns x first =
      let seen = seen_row Idle too_old_at idle_sees rows now low is x first in
      let row = seen.0 in
      let key = seen.2 in
      (key.3, (row, seen.1, λ same. idle_turns now x row row.standing key.0 key.1 key.2 key.3 (same false true)))

  is_next : (ripe idle : Option ℕ) → IsFirstSeen (row_key Ripe low None) rows ripe_of ripe → IsFirstSeen (row_key Idle low None) rows too_old_at idle
      → IsNextMoment rows now (earlier ripe idle)
  is_next None None none_ripe none_idle = λ later le. steady None None none_ripe none_idle later le tt tt
  is_next (Some a) None ripe none_idle =
      let turns = ripe_row_turns a ripe in
      (turns.0, λ later le lt. steady (Some a) None ripe none_idle later le lt tt, turns.1)
  is_next None (Some b) none_ripe idle =
      let turns = idle_row_turns b idle in
      (turns.0, λ later le lt. steady None (Some b) none_ripe idle later le tt lt, turns.1)
  is_next (Some a) (Some b) ripe idle =
      let turns = at_lesser (Turns rows now) a b (ripe_row_turns a ripe) (idle_row_turns b idle) in (
        turns.0,
        λ later le lt.
            let before_a : later < a = omega arith in
            let before_b : later < b = omega arith in
            steady (Some a) (Some b) ripe idle later le before_a before_b,
        turns.1,
      )

  pub next_moment : (ripe idle result : Option ℕ) → IsFirstSeen (row_key Ripe low None) rows ripe_of ripe → IsFirstSeen (row_key Idle low None) rows too_old_at idle
      → result ≡ earlier ripe idle → IsNextMoment rows now result
  next_moment ripe idle result first_ripe first_idle result_is = subst (IsNextMoment rows now) (sym result_is) (is_next ripe idle first_ripe first_idle)
