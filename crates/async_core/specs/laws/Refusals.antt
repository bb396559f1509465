-- Lemmas: what is known of a command that is not refused.
use Rattle.std.proofs.Common.{◌≡◌, ◌≤◌, List, [], ◌∷◌, ◌++◌, Bool, true, false, refl, sym, ◌∙◌, Option, Some, None}
use Rattle.std.proofs.lemmas.Bool.{true≢false, ltb-false, not-false}
use Rattle.retry_rules.specs.declared.settings.Settings.{Settings}
use Rattle.invoke_records.specs.declared.command.Command.{Command}
use Rattle.invoke_records.specs.declared.command.Kind.{Kind}
use Rattle.invoke_records.specs.declared.command.Kind.TheVariants.{Accept, Start, Succeed, Fail, Throttle, Interrupt, Expire, Collect, Configure}
use Rattle.invoke_records.specs.declared.command.Cause.TheVariants.{Reported, Timeout, Exited}
use Rattle.async_core.specs.declared.illegal.Illegal.{Illegal}
use Rattle.async_core.specs.Lives.{kind_is_accept, kind_names}
use Rattle.async_core.specs.Standings.{is_unknown}
use Rattle.async_core.specs.declared.situation.Situation.{Situation}
use Rattle.async_core.specs.Checks.{first_failed, shape_checks, clock_check, state_checks, refusal_in}

-- no check of these fails
abbrev pub NoneFails : List (Bool × Illegal) → Type 0
NoneFails [] = Unit {0}
NoneFails (check ∷ checks) = (check.0 ≡ false) × NoneFails checks

pub none_fails : (checks : List (Bool × Illegal)) → first_failed checks ≡ None → NoneFails checks
none_fails [] h = tt
none_fails ((true, why) ∷ checks) h = absurd (cc)
none_fails ((false, why) ∷ checks) h = (refl, none_fails checks h)

pub first_failed-none : (checks : List (Bool × Illegal)) → NoneFails checks → first_failed checks ≡ None
first_failed-none [] h = refl
first_failed-none (check ∷ checks) h = rw h.0 (first_failed-none checks h.1)

NoneFails-append : (front back : List (Bool × Illegal)) → NoneFails (front ++ back) → NoneFails front × NoneFails back
NoneFails-append [] back h = (tt, h)
NoneFails-append (check ∷ front) back h = let rest = NoneFails-append front back h.1 in ((h.0, rest.0), rest.1)

-- the checks one after another
pub first_failed-past : (front back : List (Bool × Illegal)) → first_failed front ≡ None → first_failed (front ++ back) ≡ first_failed back
first_failed-past [] back h = refl
first_failed-past ((true, why) ∷ front) back h = absurd (cc)
first_failed-past ((false, why) ∷ front) back h = first_failed-past front back h

pub first_failed-found : (front back : List (Bool × Illegal)) (why : Illegal) → first_failed front ≡ Some why → first_failed (front ++ back) ≡ Some why
first_failed-found [] back why h = absurd (cc)
first_failed-found ((true, other) ∷ front) back why h = h
first_failed-found ((false, other) ∷ front) back why h = first_failed-found front back why h

module _ (s : Settings) (x : Situation) (c : Command) where
  pub refused_by_shape : (why : Illegal) → Some why ≡ first_failed (shape_checks s c c.kind) → Some why ≡ refusal_in s x c
  unfolding refusal_in
  refused_by_shape why h = sym (first_failed-found (shape_checks s c c.kind) (clock_check x c ∷ state_checks s x c c.kind) why (sym h))

  pub refused_by_clock : (why : Illegal) → None ≡ first_failed (shape_checks s c c.kind) → Some why ≡ first_failed (clock_check x c ∷ []) → Some why ≡ refusal_in s x c
  unfolding refusal_in
  refused_by_clock why shape h =
      sym (first_failed-past (shape_checks s c c.kind) (clock_check x c ∷ state_checks s x c c.kind) (sym shape)
      ∙ first_failed-found (clock_check x c ∷ []) (state_checks s x c c.kind) why (sym h))

  pub judged_by_state : (r : Option Illegal) → None ≡ first_failed (shape_checks s c c.kind) → None ≡ first_failed (clock_check x c ∷ []) → r ≡ first_failed (state_checks s x c c.kind) → r ≡ refusal_in s x c
  unfolding refusal_in
  judged_by_state r shape clock h =
      h ∙ sym (first_failed-past (shape_checks s c c.kind) (clock_check x c ∷ state_checks s x c c.kind) (sym shape)
      ∙ first_failed-past (clock_check x c ∷ []) (state_checks s x c c.kind) (sym clock))

module _ (s : Settings) (x : Situation) (c : Command) (passes : refusal_in s x c ≡ None) where
  parts : NoneFails (shape_checks s c c.kind) × NoneFails (clock_check x c ∷ state_checks s x c c.kind)
  unfolding refusal_in
  parts = NoneFails-append (shape_checks s c c.kind) (clock_check x c ∷ state_checks s x c c.kind) (none_fails (shape_checks s c c.kind ++ clock_check x c ∷ state_checks s x c c.kind) passes)

  pub shape_passes : NoneFails (shape_checks s c c.kind)
  shape_passes = parts.0

  pub clock_passes : x.last_moment ≤ c.time
  clock_passes = ltb-false _ _ parts.1.0

  pub state_passes : NoneFails (state_checks s x c c.kind)
  state_passes = parts.1.1

-- an Accept's event is unknown, and that of any other command that names one is known
presence_by : (s : Settings) (x : Situation) (c : Command) (k : Kind) → kind_names k ≡ true → NoneFails (shape_checks s c k) → NoneFails (state_checks s x c k) → is_unknown x.standing ≡ kind_is_accept k
presence_by s x c Accept named shape h = not-false _ h.0
presence_by s x c Start named shape h = h.0
presence_by s x c Succeed named shape h = h.0
presence_by s x c (Fail Reported) named shape h = h.0
presence_by s x c (Fail Timeout) named shape h = h.0
presence_by s x c (Fail Exited) named shape h = h.0
presence_by s x c Throttle named shape h = h.0
presence_by s x c Interrupt named shape h = h.0
presence_by s x c Expire named shape h = h.0
presence_by s x c Collect named shape h = h.0
presence_by s x c (Configure policy) named shape h = absurd (true≢false (sym named))

pub presence : (s : Settings) (x : Situation) (c : Command) → kind_names c.kind ≡ true → refusal_in s x c ≡ None → is_unknown x.standing ≡ kind_is_accept c.kind
presence s x c named passes = presence_by s x c c.kind named (shape_passes s x c passes) (state_passes s x c passes)
