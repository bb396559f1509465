-- The move that goes next after a history is legal after it.
use Rattle.std.proofs.Common.{◌≡◌, ℕ, ◌≤◌, ◌<◌, List, [], ◌∷◌, ◌++◌, Bool, true, false, not, ◌||◌, refl, sym, ap, ◌∙◌, Option, Some, None, subst, nat_lt, nat_le, if◌then◌else◌}
use Rattle.std.specs.Prelude.{is_some}
use Rattle.std.proofs.lemmas.Bool.{true≢false, leb-true, le-ltb, lt-ltb, or_from}
use Rattle.retry_rules.specs.declared.settings.Settings.{Settings}
use Rattle.invoke_records.specs.Spelling.{greatest_moment}
use Rattle.invoke_records.specs.declared.command.Command.{Command}
use Rattle.invoke_records.specs.declared.command.Kind.{Kind}
use Rattle.invoke_records.specs.declared.command.Kind.TheVariants.{Start, Fail, Throttle, Expire}
use Rattle.invoke_records.specs.declared.command.Cause.TheVariants.{Timeout}
use Rattle.invoke_records.specs.declared.row.Standing.{Standing}
use Rattle.invoke_records.specs.declared.row.Standing.TheVariants as standing
use Rattle.async_core.specs.declared.choice.Move.{Move}
use Rattle.async_core.specs.declared.situation.Situation.{Situation}
use Rattle.async_core.specs.declared.illegal.Illegal.{Illegal}
use Rattle.async_core.specs.Standings.{is_running, is_unknown, is_ended, is_due, is_past_deadline}
use Rattle.async_core.specs.Checks.{shape_checks, state_checks, refusal_in, clock_check}
use Rattle.async_core.specs.History.{standing_in, too_old_from, running_count, is_busy_in, refusal_of, situation_of, last_moment}
use Rattle.async_core.specs.laws.Refusals.{NoneFails, first_failed-none}
use Rattle.async_core.specs.Choice.{move_by, start_or_throttle, move_of, environment_for, IsNextMove, IsFree, IsLegalMove, command_of_move}

NoneFails-join : (front back : List (Bool × Illegal)) → NoneFails front → NoneFails back → NoneFails (front ++ back)
NoneFails-join [] back a b = b
NoneFails-join (check ∷ front) back a b = (a.0, NoneFails-join front back a.1 b)

not_refused : (s : Settings) (x : Situation) (c : Command) → NoneFails (shape_checks s c c.kind) → x.last_moment ≤ c.time → NoneFails (state_checks s x c c.kind) → refusal_in s x c ≡ None
unfolding refusal_in
not_refused s x c shape clock state =
    first_failed-none (shape_checks s c c.kind ++ clock_check x c ∷ state_checks s x c c.kind)
    (NoneFails-join (shape_checks s c c.kind) (clock_check x c ∷ state_checks s x c c.kind) shape (le-ltb c.time x.last_moment clock, state))

-- an environment of the settings, if one is given
abbrev IsOfSettings : Settings → Bool → Option ℕ → Type 0
IsOfSettings s busy None = Unit {0}
IsOfSettings s busy (Some environment) = (0 < environment) × (environment ≤ s.environments) × (busy ≡ false)

module _ (s : Settings) (x : Situation) (id : List ℕ) (now : ℕ) (ready : Option ℕ) (moment : now ≤ greatest_moment) where
  abbrev moved : Kind → Command
  moved k = record { kind = k; id = id; environment = environment_for ready k; time = now; bytes = [] }

  abbrev Passes : Kind → Type 0
  Passes k = NoneFails (shape_checks s (moved k) k) × NoneFails (state_checks s x (moved k) k)

  early : nat_lt greatest_moment now ≡ false
  early = le-ltb greatest_moment now moment

  started : (r : Option ℕ) → r ≡ ready → is_some r ≡ true → IsOfSettings s x.is_busy r → is_unknown x.standing ≡ false → is_due now x.standing ≡ true → nat_le x.too_old_from now ≡ false → nat_le s.concurrency x.running ≡ false → Passes Start
  started None is some free known due young room = absurd (true≢false (sym some))
  started (Some environment) is some free known due young room =
      let lower : nat_lt 0 environment ≡ true = lt-ltb 0 environment free.0 in
      let upper : nat_lt s.environments environment ≡ false = le-ltb s.environments environment free.1 in
      rw (← is) ((or_from (not (nat_lt 0 environment)) (nat_lt s.environments environment) (ap not lower) upper, (early, (refl, (refl, tt)))), (known, (ap not due, (young, (room, (free.2, tt))))))

  due_move : (old due full : Bool) (kind : Kind) → nat_le x.too_old_from now ≡ old → is_due now x.standing ≡ due → nat_le s.concurrency x.running ≡ full
      → (kind ≡ Start → IsOfSettings s x.is_busy ready) → is_unknown x.standing ≡ false → (is_running x.standing || is_ended x.standing) ≡ false
      → (if old then Some Expire else if due then start_or_throttle full (is_some ready) else None) ≡ Some kind → Passes kind
  due_move true due full kind old is_due_ full_ free known idle makes =
      let same : Some Expire ≡ Some kind = makes in
      let is : Expire ≡ kind = cc in
      let past : x.too_old_from ≤ now = leb-true x.too_old_from now old in
      subst Passes is ((refl, (early, (refl, (refl, tt)))), (known, (or_from (is_running x.standing || is_ended x.standing) (nat_lt now x.too_old_from) idle (le-ltb now x.too_old_from past), tt)))
  due_move false true true kind old due full free known idle makes =
      let is : Throttle ≡ kind = cc in
      let busy : s.concurrency ≤ x.running = leb-true s.concurrency x.running full in
      subst Passes is ((refl, (early, (refl, (refl, tt)))), (known, (ap not due, (old, (le-ltb x.running s.concurrency busy, tt)))))
  due_move false true false kind old due full free known idle makes = starting (is_some ready) refl makes
    where
      starting : (has : Bool) → is_some ready ≡ has → start_or_throttle false has ≡ Some kind → Passes kind
      starting true has makes = let is : Start ≡ kind = cc in subst Passes is (started ready refl has (free (sym is)) known due old full)
      starting false has makes = absurd (cc)
  due_move false false full kind old due full_ free known idle makes = absurd (cc)

  running_move : (kind : Kind) (environment deadline : ℕ) (past : Bool) → x.standing ≡ standing.Running environment deadline → nat_le deadline now ≡ past → (if past then Some (Fail Timeout) else None) ≡ Some kind → Passes kind
  running_move kind environment deadline true runs past makes =
      let is : Fail Timeout ≡ kind = cc in
      subst Passes is ((refl, (early, (refl, (refl, tt)))), (ap is_unknown runs, (ap (λ z. not (is_running z)) runs, (ap (λ z. not (is_past_deadline now z)) runs ∙ ap not past, tt))))
  running_move kind environment deadline false runs past makes = absurd (cc)

  -- the checks of a move, by where its event stands
  move_passes : (st : Standing) → x.standing ≡ st → (kind : Kind) → (kind ≡ Start → IsOfSettings s x.is_busy ready) → move_by (nat_le s.concurrency x.running) (is_some ready) x.too_old_from now st ≡ Some kind → Passes kind
  move_passes standing.Unknown is kind free makes = absurd (cc)
  move_passes (standing.Waiting due) is kind free makes =
      due_move (nat_le x.too_old_from now) (nat_le due now) (nat_le s.concurrency x.running) kind refl (ap (is_due now) is) refl free (ap is_unknown is) (ap (λ z. is_running z || is_ended z) is) makes
  move_passes (standing.DueAgain due) is kind free makes =
      due_move (nat_le x.too_old_from now) (nat_le due now) (nat_le s.concurrency x.running) kind refl (ap (is_due now) is) refl free (ap is_unknown is) (ap (λ z. is_running z || is_ended z) is) makes
  move_passes (standing.Running environment deadline) is kind free makes = running_move kind environment deadline (nat_le deadline now) is refl makes
  move_passes (standing.Ended outcome at) is kind free makes = absurd (cc)

free_of : (s : Settings) (h : List Command) (ready : Option ℕ) (kind : Kind) → IsFree s h ready → kind ≡ Start → IsOfSettings s (is_busy_in s h (environment_for ready kind)) ready
free_of s h None kind free start = tt
free_of s h (Some environment) kind free start = (free.0, free.1, ap (λ k. is_busy_in s h (environment_for (Some environment) k)) start ∙ free.2)

-- the move of the event that goes next is legal
pub legal_move : (s : Settings) (h : List Command) (now : ℕ) (ready : Option ℕ) (result : Option Move) → now ≤ greatest_moment → last_moment h ≤ now → IsFree s h ready → IsNextMove s h now ready result → IsLegalMove s h now result
unfolding refusal_of move_of
legal_move s h now ready None moment clock free next = tt
legal_move s h now ready (Some move) moment clock free next =
    let c = moved s (situation_of s h (command_of_move now move)) move.id now ready moment move.kind in
    let x = situation_of s h c in
    let makes : move_by (nat_le s.concurrency (running_count s h)) (is_some ready) (too_old_from s h move.id) now (standing_in s h move.id) ≡ Some move.kind =
    subst (λ (id : List ℕ). move_by (nat_le s.concurrency (running_count s h)) (is_some ready) (too_old_from s h id) now (standing_in s h id) ≡ Some move.kind) (sym next.1) next.3.moves in
    let passes = move_passes s x move.id now ready moment (standing_in s h move.id) refl move.kind (free_of s h ready move.kind free) makes in
    subst (λ (environment : ℕ). refusal_of s h (record { kind = move.kind; id = move.id; environment = environment; time = now; bytes = [] }) ≡ None) (sym next.2)
    (not_refused s x c passes.0 clock passes.1)
