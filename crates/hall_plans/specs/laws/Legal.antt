-- Laws: the commands that a hall makes of answers, interrupts and moves are legal.
use Rattle.std.proofs.Common.{◌≡◌, ℕ, ◌≤◌, List, [], ◌∷◌, ◌++◌, length, Bool, true, false, not, ◌||◌, refl, sym, subst, ap, ◌∙◌, arith, Some, None, nat_lt, if◌then◌else◌}
use Rattle.std.specs.Prelude.{nat_le}
use Rattle.std.proofs.lemmas.Bool.{le-ltb, lt-ltb, ltb-false, leb-true, or_from, true≢false}
use Rattle.retry_rules.specs.declared.settings.Settings.{Settings}
use Rattle.invoke_records.specs.Spelling.{greatest_moment}
use Rattle.invoke_records.specs.declared.command.Command.{Command}
use Rattle.invoke_records.specs.declared.command.Kind.{Kind}
use Rattle.invoke_records.specs.declared.command.Kind.TheVariants.{Accept, Start, Succeed, Fail, Throttle, Interrupt, Expire, Collect, Configure}
use Rattle.invoke_records.specs.declared.command.Cause.TheVariants.{Reported, Timeout, Exited}
use Rattle.invoke_records.specs.declared.row.Standing.{Standing}
use Rattle.invoke_records.specs.declared.row.Standing.TheVariants as standing
use Rattle.async_core.specs.Standings.{is_unknown, is_ended, is_running, is_due, is_past_deadline}
use Rattle.async_core.specs.Checks.{shape_checks, clock_check, state_checks, refusal_in}
use Rattle.async_core.specs.laws.Refusals.{NoneFails, first_failed-none, presence, shape_passes, state_passes}
use Rattle.async_core.specs.History.{standing_in, refusal_of, situation_of, IsLegal, last_moment, running_count, is_busy_in, too_old_from}
use Rattle.async_core.specs.Choice.{start_or_throttle, move_by, move_of}
use Rattle.async_core.specs.laws.Lives.{last_moment-snoc}
use Rattle.async_core.specs.laws.Held.{legally}
use Rattle.hall_plans.specs.Effects.{command_for}
use Rattle.hall_plans.specs.Agreement.{IsOne}

-- ## Standings

pub known_running : (st : Standing) → is_running st ≡ true → is_unknown st ≡ false
known_running standing.Unknown h = absurd (true≢false (sym h))
known_running (standing.Waiting due) h = refl
known_running (standing.DueAgain due) h = refl
known_running (standing.Running environment deadline) h = refl
known_running (standing.Ended outcome at) h = refl

unknown_rests : (st : Standing) → is_unknown st ≡ true → is_running st ≡ false
unknown_rests standing.Unknown h = refl
unknown_rests (standing.Waiting due) h = refl
unknown_rests (standing.DueAgain due) h = refl
unknown_rests (standing.Running environment deadline) h = absurd (true≢false (sym h))
unknown_rests (standing.Ended outcome at) h = refl

ended_rests : (st : Standing) → not (is_ended st) ≡ false → is_running st ≡ false
ended_rests standing.Unknown h = refl
ended_rests (standing.Waiting due) h = refl
ended_rests (standing.DueAgain due) h = refl
ended_rests (standing.Running environment deadline) h = absurd (true≢false h)
ended_rests (standing.Ended outcome at) h = refl

-- what is accepted does not run, and what is collected does not either
pub accepted_rests : (s : Settings) (h : List Command) (id : List ℕ) (now : ℕ) (bytes : List ℕ) → refusal_of s h (command_for Accept id now bytes) ≡ None → is_running (standing_in s h id) ≡ false
unfolding refusal_of
accepted_rests s h id now bytes passes =
    unknown_rests (standing_in s h id) (presence s (situation_of s h (command_for Accept id now bytes)) (command_for Accept id now bytes) refl passes)

pub collected_rests : (s : Settings) (h : List Command) (id : List ℕ) (now : ℕ) (bytes : List ℕ) → refusal_of s h (command_for Collect id now bytes) ≡ None → is_running (standing_in s h id) ≡ false
unfolding refusal_of
collected_rests s h id now bytes passes =
    let state : NoneFails (state_checks s (situation_of s h (command_for Collect id now bytes)) (command_for Collect id now bytes) Collect) =
    state_passes s (situation_of s h (command_for Collect id now bytes)) (command_for Collect id now bytes) passes in
    ended_rests (standing_in s h id) state.1.0

-- ## Moments

within_time : (s : Settings) (c : Command) (k : Kind) → NoneFails (shape_checks s c k) → c.time ≤ greatest_moment
within_time s c Accept fits = ltb-false _ _ fits.1.0
within_time s c Start fits = ltb-false _ _ fits.1.0
within_time s c Succeed fits = ltb-false _ _ fits.1.0
within_time s c (Fail Reported) fits = ltb-false _ _ fits.1.0
within_time s c (Fail Timeout) fits = ltb-false _ _ fits.1.0
within_time s c (Fail Exited) fits = ltb-false _ _ fits.1.0
within_time s c Throttle fits = ltb-false _ _ fits.1.0
within_time s c Interrupt fits = ltb-false _ _ fits.1.0
within_time s c Expire fits = ltb-false _ _ fits.1.0
within_time s c Collect fits = ltb-false _ _ fits.1.0
within_time s c (Configure policy) fits = ltb-false _ _ fits.1.0

legal_time : (s : Settings) (h : List Command) (c : Command) → refusal_of s h c ≡ None → c.time ≤ greatest_moment
unfolding refusal_of
legal_time s h c passes = within_time s c c.kind (shape_passes s (situation_of s h c) c passes)

-- the last moment of a legal history is one that a record can hold
pub last_moment_fits : (s : Settings) (h : List Command) → IsLegal s h → last_moment h ≤ greatest_moment
last_moment_fits s h legal =
    legally s (λ h. last_moment h ≤ greatest_moment) (omega arith)
    (λ h c before passes ih. subst (λ n. n ≤ greatest_moment) (sym (last_moment-snoc h c)) (legal_time s h c passes)) h legal

-- ## Moves

module _ (full ready : Bool) (old now : ℕ) where
  -- what makes an event that stands there move so
  abbrev pub CanMove : Standing → Kind → Type 0
  CanMove st Start =
      (is_unknown st ≡ false) × (is_running st ≡ false) × (is_due now st ≡ true) × (nat_le old now ≡ false) × (full ≡ false) × (ready ≡ true)
  CanMove st Throttle = (is_unknown st ≡ false) × (is_running st ≡ false) × (is_due now st ≡ true) × (nat_le old now ≡ false) × (full ≡ true)
  CanMove st Expire = (is_unknown st ≡ false) × (is_running st ≡ false) × (is_ended st ≡ false) × (nat_le old now ≡ true)
  CanMove st (Fail Timeout) = (is_running st ≡ true) × (is_past_deadline now st ≡ true)
  CanMove st kind = ⊥

  due_moves : (st : Standing) (due : ℕ) → is_unknown st ≡ false → is_running st ≡ false → is_ended st ≡ false → is_due now st ≡ nat_le due now
      → (a b c d : Bool) → nat_le old now ≡ a → nat_le due now ≡ b → full ≡ c → ready ≡ d
      → (kind : Kind) → (if a then Some Expire else if b then start_or_throttle c d else None) ≡ Some kind → CanMove st kind
  due_moves st due known rests unended at true b c d oa ob oc od kind makes =
      let is : Expire ≡ kind = cc in subst (CanMove st) is (known, rests, unended, oa)
  due_moves st due known rests unended at false true true d oa ob oc od kind makes =
      let is : Throttle ≡ kind = cc in subst (CanMove st) is (known, rests, at ∙ ob, oa, oc)
  due_moves st due known rests unended at false true false true oa ob oc od kind makes =
      let is : Start ≡ kind = cc in subst (CanMove st) is (known, rests, at ∙ ob, oa, oc, od)
  due_moves st due known rests unended at false true false false oa ob oc od kind makes = absurd (cc)
  due_moves st due known rests unended at false false c d oa ob oc od kind makes = absurd (cc)

  late_moves : (environment deadline : ℕ) (t : Bool) → nat_le deadline now ≡ t → (kind : Kind) → (if t then Some (Fail Timeout) else None) ≡ Some kind
      → CanMove (standing.Running environment deadline) kind
  late_moves environment deadline true late kind makes =
      let is : Fail Timeout ≡ kind = cc in subst (CanMove (standing.Running environment deadline)) is (refl, late)
  late_moves environment deadline false late kind makes = absurd (cc)

  can_move : (st : Standing) (kind : Kind) → move_by full ready old now st ≡ Some kind → CanMove st kind
  can_move standing.Unknown kind makes = absurd (cc)
  can_move (standing.Waiting due) kind makes = due_moves (standing.Waiting due) due refl refl refl refl (nat_le old now) (nat_le due now) full ready refl refl refl refl kind makes
  can_move (standing.DueAgain due) kind makes = due_moves (standing.DueAgain due) due refl refl refl refl (nat_le old now) (nat_le due now) full ready refl refl refl refl kind makes
  can_move (standing.Running environment deadline) kind makes = late_moves environment deadline (nat_le deadline now) refl kind makes
  can_move (standing.Ended outcome at) kind makes = absurd (cc)

-- an event moves so after this history
abbrev pub Moves : Settings → List Command → ℕ → Bool → List ℕ → Kind → Type 0
Moves s h now ready id kind = CanMove (nat_le s.concurrency (running_count s h)) ready (too_old_from s h id) now (standing_in s h id) kind

pub moves_so : (s : Settings) (h : List Command) (now : ℕ) (ready : Bool) (id : List ℕ) (kind : Kind) → move_of s h now ready id ≡ Some kind → Moves s h now ready id kind
unfolding move_of
moves_so s h now ready id kind makes = can_move (nat_le s.concurrency (running_count s h)) ready (too_old_from s h id) now (standing_in s h id) kind makes

-- ## Commands

legal_by : (s : Settings) (h : List Command) (c : Command)
    → NoneFails (shape_checks s c c.kind ++ clock_check (situation_of s h c) c ∷ state_checks s (situation_of s h c) c c.kind) → refusal_of s h c ≡ None
unfolding refusal_of refusal_in
legal_by s h c none = first_failed-none (shape_checks s c c.kind ++ clock_check (situation_of s h c) c ∷ state_checks s (situation_of s h c) c c.kind) none

module _ (s : Settings) (h : List Command) (now : ℕ) (id : List ℕ) (clock : last_moment h ≤ now) (bound : now ≤ greatest_moment) where
  early : nat_lt greatest_moment now ≡ false
  early = le-ltb greatest_moment now bound

  forward : nat_lt now (last_moment h) ≡ false
  forward = le-ltb now (last_moment h) clock

  not_negative : (n : ℕ) → nat_lt n 0 ≡ false
  not_negative n = le-ltb n 0 (omega arith)

  pub legal_interrupt : is_running (standing_in s h id) ≡ true → refusal_of s h (command_for Interrupt id now []) ≡ None
  legal_interrupt runs =
      legal_by s h (command_for Interrupt id now []) (refl, (early, (refl, (refl, (forward, (known_running (standing_in s h id) runs, (ap not runs, tt)))))))

  pub legal_timeout : is_running (standing_in s h id) ≡ true → is_past_deadline now (standing_in s h id) ≡ true → refusal_of s h (command_for (Fail Timeout) id now []) ≡ None
  legal_timeout runs late =
      legal_by s h (command_for (Fail Timeout) id now []) (refl, (early, (refl, (refl, (forward, (known_running (standing_in s h id) runs, (ap not runs, (ap not late, tt))))))))

  pub legal_exit : is_running (standing_in s h id) ≡ true → is_past_deadline now (standing_in s h id) ≡ false → refusal_of s h (command_for (Fail Exited) id now []) ≡ None
  legal_exit runs late =
      legal_by s h (command_for (Fail Exited) id now []) (refl, (early, (refl, (refl, (forward, (known_running (standing_in s h id) runs, (ap not runs, (late, tt))))))))

  pub legal_response : (bytes : List ℕ) → length bytes ≤ s.response → is_running (standing_in s h id) ≡ true → is_past_deadline now (standing_in s h id) ≡ false
      → refusal_of s h (command_for Succeed id now bytes) ≡ None
  legal_response bytes fits runs late =
      legal_by s h (command_for Succeed id now bytes)
      (refl, (early, (le-ltb s.response (length bytes) fits, (not_negative (length bytes), (forward, (known_running (standing_in s h id) runs, (ap not runs, (late, tt))))))))

  pub legal_error : (bytes : List ℕ) → length bytes ≤ s.response → is_running (standing_in s h id) ≡ true → is_past_deadline now (standing_in s h id) ≡ false
      → refusal_of s h (command_for (Fail Reported) id now bytes) ≡ None
  legal_error bytes fits runs late =
      legal_by s h (command_for (Fail Reported) id now bytes)
      (refl, (early, (le-ltb s.response (length bytes) fits, (not_negative (length bytes), (forward, (known_running (standing_in s h id) runs, (ap not runs, (late, tt))))))))

  -- an environment of the settings that runs nothing by the history is given a start
  pub legal_start : (environment : ℕ) → IsOne s environment → is_busy_in s h environment ≡ false → Moves s h now true id Start
      → refusal_of s h (record { kind = Start; id = id; environment = environment; time = now; bytes = [] }) ≡ None
  legal_start environment one free (known, rests, due, young, room, has) =
      let lower : nat_lt 0 environment ≡ true = lt-ltb 0 environment one.0 in
      let upper : nat_lt s.environments environment ≡ false = le-ltb s.environments environment one.1 in
      legal_by s h (record { kind = Start; id = id; environment = environment; time = now; bytes = [] }) (
        or_from (not (nat_lt 0 environment)) (nat_lt s.environments environment) (ap not lower) upper,
        (early, (refl, (refl, (forward, (known, (ap not due, (young, (room, (free, tt))))))))),
      )

  pub legal_throttle : (ready : Bool) → Moves s h now ready id Throttle → refusal_of s h (command_for Throttle id now []) ≡ None
  legal_throttle ready (known, rests, due, young, full) =
      let busy : s.concurrency ≤ running_count s h = leb-true s.concurrency (running_count s h) full in
      legal_by s h (command_for Throttle id now [])
      (refl, (early, (refl, (refl, (forward, (known, (ap not due, (young, (le-ltb (running_count s h) s.concurrency busy, tt)))))))))

  pub legal_expiry : (ready : Bool) → Moves s h now ready id Expire → refusal_of s h (command_for Expire id now []) ≡ None
  legal_expiry ready (known, rests, unended, old) =
      let past : too_old_from s h id ≤ now = leb-true (too_old_from s h id) now old in
      legal_by s h (command_for Expire id now []) (
        refl,
        (
          early,
          (
            refl,
            (
              refl,
              (
                forward,
                (
                  known,
                  (
                    or_from (is_running (standing_in s h id) || is_ended (standing_in s h id)) (nat_lt now (too_old_from s h id)) (or_from (is_running (standing_in s h id)) (is_ended (standing_in s h id)) rests unended)
                        (le-ltb now (too_old_from s h id) past),
                    tt,
                  ),
                ),
              ),
            ),
          ),
        ),
      )
