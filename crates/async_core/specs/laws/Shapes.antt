-- Lemmas: what good settings bound, and that a command of the shape that they ask has a spelling.
use Rattle.std.proofs.Common.{◌≡◌, ℕ, ◌≤◌, ◌<◌, List, [], ◌∷◌, length, Bool, true, false, not, ◌||◌, refl, arith, Option, Some, None, nat_lt, if◌then◌else◌}
use Rattle.std.proofs.lemmas.Bool.{ltb-true, ltb-false, not-false, le-ltb, or_parts, or_from}
use Rattle.retry_rules.specs.Settings.{bad_field, first_bad, checks, policy_of, is_bad_policy}
use Rattle.retry_rules.specs.declared.settings.Settings.{Settings}
use Rattle.retry_rules.specs.declared.settings.Field.{Field}
use Rattle.invoke_records.specs.Spelling.{greatest_moment, is_bad_environment, is_bad_id, is_bad_detail, most_bytes, least_bytes}
use Rattle.invoke_records.specs.declared.error.RecordError.{RecordError}
use Rattle.invoke_records.specs.declared.error.RecordError.TheVariants as fault
use Rattle.invoke_records.specs.declared.command.Command.{Command}
use Rattle.invoke_records.specs.declared.command.Kind.{Kind}
use Rattle.invoke_records.specs.declared.command.Kind.TheVariants.{Accept, Start, Succeed, Fail, Throttle, Interrupt, Expire, Collect, Configure}
use Rattle.invoke_records.specs.declared.command.Cause.TheVariants.{Reported, Timeout, Exited}
use Rattle.async_core.specs.Checks.{shape_by, shape_checks}
use Rattle.async_core.specs.laws.Refusals.{NoneFails}

abbrev pub NoneBad : List (Bool × Field) → Type 0
NoneBad [] = Unit {0}
NoneBad (check ∷ checks) = (check.0 ≡ false) × NoneBad checks

none_bad : (checks : List (Bool × Field)) → first_bad checks ≡ None → NoneBad checks
none_bad [] h = tt
none_bad ((true, field) ∷ checks) h = absurd (cc)
none_bad ((false, field) ∷ checks) h = (refl, none_bad checks h)

-- what good settings bound
pub record Limits (s : Settings) : Type 0 where
  pub policy : is_bad_policy (policy_of s) ≡ false
  pub environments : s.environments ≤ 16
  pub events : s.events ≤ 1024
  pub payload : s.payload ≤ 1048576
  pub response : s.response ≤ 262144

pub limits : (s : Settings) → bad_field s ≡ None → Limits s
limits s good =
    let all : NoneBad (checks s) = none_bad (checks s) good in
    record {
      policy = or_from _ _ all.0 all.1.0;
      environments = ltb-false _ _ (or_parts _ _ all.1.1.1.1.0).1;
      events = ltb-false _ _ (or_parts _ _ all.1.1.1.1.1.0).1;
      payload = ltb-false _ _ (or_parts _ _ all.1.1.1.1.1.1.0).1;
      response = ltb-false _ _ (or_parts _ _ all.1.1.1.1.1.1.1.0).1;
    }

-- what keeps a command of this kind from having a spelling
abbrev fault_by : Kind → Command → Option RecordError
fault_by k c =
    if is_bad_environment k c.environment || (is_bad_id k c.id || nat_lt greatest_moment c.time) then Some fault.BadKind
    else if nat_lt (most_bytes k) (length c.bytes) then Some fault.TooLong
    else if nat_lt (length c.bytes) (least_bytes k) then Some fault.BadKind
    else if is_bad_detail k then Some fault.BadKind
    else None

-- a command within these bounds has a spelling
within : (k : Kind) (c : Command) (bad : Bool) (least most : ℕ) → NoneFails (shape_by bad least most c) → is_bad_id k c.id ≡ false → is_bad_detail k ≡ false → (bad ≡ false → is_bad_environment k c.environment ≡ false) → most ≤ most_bytes k → least_bytes k ≤ least → fault_by k c ≡ None
within k c bad least most fits id detail environment top bottom =
    let e : is_bad_environment k c.environment ≡ false = environment fits.0 in
    let time : nat_lt greatest_moment c.time ≡ false = fits.1.0 in
    let short : length c.bytes ≤ most = ltb-false _ _ fits.1.1.0 in
    let long : least ≤ length c.bytes = ltb-false _ _ fits.1.1.1.0 in
    let upper : nat_lt (most_bytes k) (length c.bytes) ≡ false = le-ltb _ _ (omega arith) in
    let lower : nat_lt (length c.bytes) (least_bytes k) ≡ false = le-ltb _ _ (omega arith) in
    rw (e, id, time, upper, lower, detail) refl

environment_fits : (s : Settings) (c : Command) → Limits s → (not (nat_lt 0 c.environment) || nat_lt s.environments c.environment) ≡ false → is_bad_environment Start c.environment ≡ false
environment_fits s c bounds h =
    let some : nat_lt 0 c.environment ≡ true = not-false (nat_lt 0 c.environment) (or_parts (not (nat_lt 0 c.environment)) (nat_lt s.environments c.environment) h).0 in
    let above : 0 < c.environment = ltb-true 0 c.environment some in
    let below : c.environment ≤ s.environments = ltb-false s.environments c.environment (or_parts (not (nat_lt 0 c.environment)) (nat_lt s.environments c.environment) h).1 in
    let most : s.environments ≤ 16 = bounds.environments in
    or_from (nat_lt c.environment 1) (nat_lt 16 c.environment) (le-ltb c.environment 1 (omega arith)) (le-ltb 16 c.environment (omega arith))

pub shaped : (s : Settings) (c : Command) → Limits s → (k : Kind) → NoneFails (shape_checks s c k) → fault_by k c ≡ None
shaped s c limits Accept fits = within Accept c _ _ _ fits refl refl (λ h. h) limits.payload (omega arith)
shaped s c limits Start fits = within Start c _ _ _ fits refl refl (environment_fits s c limits) (omega arith) (omega arith)
shaped s c limits Succeed fits = within Succeed c _ _ _ fits refl refl (λ h. h) limits.response (omega arith)
shaped s c limits (Fail Reported) fits = within (Fail Reported) c _ _ _ fits refl refl (λ h. h) limits.response (omega arith)
shaped s c limits (Fail Timeout) fits = within (Fail Timeout) c _ _ _ fits refl refl (λ h. h) (omega arith) (omega arith)
shaped s c limits (Fail Exited) fits = within (Fail Exited) c _ _ _ fits refl refl (λ h. h) (omega arith) (omega arith)
shaped s c limits Throttle fits = within Throttle c _ _ _ fits refl refl (λ h. h) (omega arith) (omega arith)
shaped s c limits Interrupt fits = within Interrupt c _ _ _ fits refl refl (λ h. h) (omega arith) (omega arith)
shaped s c limits Expire fits = within Expire c _ _ _ fits refl refl (λ h. h) (omega arith) (omega arith)
shaped s c limits Collect fits = within Collect c _ _ _ fits refl refl (λ h. h) (omega arith) (omega arith)
shaped s c limits (Configure policy) fits =
    let k : Kind = Configure policy in
    let placed = or_parts (nat_lt 0 c.environment) (is_bad_id k c.id) fits.0 in
    within k c (nat_lt 0 c.environment || is_bad_id k c.id) 0 0 (fits.0, (fits.1.0, (fits.1.1.0, (fits.1.1.1.0, tt)))) placed.1 fits.1.1.1.1.0 (λ h. placed.0) (omega arith) (omega arith)
