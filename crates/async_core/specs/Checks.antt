-- Why a command is refused, by what it meets: the checks of each kind of command, in their order.
use Rattle.std.specs.Prelude.{ℕ, Bool, not, ◌||◌, List, [], ◌∷◌, ◌++◌, length, Option, Some, None, if◌then◌else◌, nat_lt, nat_le}
use Rattle.retry_rules.specs.declared.policy.RetryPolicy.{RetryPolicy}
use Rattle.retry_rules.specs.declared.settings.Settings.{Settings}
use Rattle.invoke_records.specs.declared.command.Command.{Command}
use Rattle.invoke_records.specs.declared.command.Kind.{Kind}
use Rattle.invoke_records.specs.declared.command.Kind.TheVariants.{Accept, Start, Succeed, Fail, Throttle, Interrupt, Expire, Collect, Configure}
use Rattle.invoke_records.specs.declared.command.Cause.{Cause}
use Rattle.invoke_records.specs.declared.command.Cause.TheVariants.{Reported, Timeout}
use Rattle.invoke_records.specs.Spelling.{greatest_moment, is_bad_id, is_bad_detail}
use Rattle.async_core.specs.declared.illegal.Illegal.{Illegal}
use Rattle.async_core.specs.declared.illegal.Illegal.TheVariants as illegal
use Rattle.async_core.specs.declared.situation.Situation.{Situation}
use Rattle.async_core.specs.Standings.{is_unknown, is_ended, is_running, is_due, is_past_deadline}

-- the first check that fails
abbrev pub first_failed : List (Bool × Illegal) → Option Illegal
first_failed [] = None
first_failed (check ∷ checks) = if check.0 then Some check.1 else first_failed checks

-- a command of this kind: whether its environment or its id is wrong, and how many bytes it has at least and at most
abbrev pub shape_by : Bool → ℕ → ℕ → Command → List (Bool × Illegal)
shape_by is_misplaced least most c =
    (is_misplaced, illegal.BadKind)
    ∷ (nat_lt greatest_moment c.time, illegal.BadKind)
    ∷ (nat_lt most (length c.bytes), illegal.TooLong)
    ∷ (nat_lt (length c.bytes) least, illegal.BadKind)
    ∷ []

abbrev pub has_environment : Command → Bool
has_environment c = nat_lt 0 c.environment

-- a Configure names no event, carries no bytes, and its policy is within its ranges
abbrev pub configure_checks : Command → RetryPolicy → List (Bool × Illegal)
configure_checks c policy =
    shape_by (has_environment c || is_bad_id (Configure policy) c.id) 0 0 c
    ++ (is_bad_detail (Configure policy), illegal.BadKind) ∷ []

-- what a command of this kind must look like
abbrev pub shape_checks : Settings → Command → Kind → List (Bool × Illegal)
shape_checks s c Accept = shape_by (has_environment c) 1 s.payload c
shape_checks s c Start = shape_by (not (has_environment c) || nat_lt s.environments c.environment) 0 0 c
shape_checks s c Succeed = shape_by (has_environment c) 0 s.response c
shape_checks s c (Fail Reported) = shape_by (has_environment c) 0 s.response c
shape_checks s c (Configure policy) = configure_checks c policy
shape_checks s c kind = shape_by (has_environment c) 0 0 c

abbrev pub clock_check : Situation → Command → Bool × Illegal
clock_check x c = (nat_lt c.time x.last_moment, illegal.ClockBack)

-- ## What a command of each kind asks of the events

abbrev pub accept_checks : Settings → Situation → List (Bool × Illegal)
accept_checks s x = (not (is_unknown x.standing), illegal.InUse) ∷ (nat_le s.events x.held, illegal.Full) ∷ []

-- at this moment
abbrev pub start_checks : Settings → Situation → ℕ → List (Bool × Illegal)
start_checks s x now =
    (is_unknown x.standing, illegal.Unknown)
    ∷ (not (is_due now x.standing), illegal.NotDue)
    ∷ (nat_le x.too_old_from now, illegal.TooOld)
    ∷ (nat_le s.concurrency x.running, illegal.AtLimit)
    ∷ (x.is_busy, illegal.EnvBusy)
    ∷ []

abbrev pub throttle_checks : Settings → Situation → ℕ → List (Bool × Illegal)
throttle_checks s x now =
    (is_unknown x.standing, illegal.Unknown)
    ∷ (not (is_due now x.standing), illegal.NotDue)
    ∷ (nat_le x.too_old_from now, illegal.TooOld)
    ∷ (nat_lt x.running s.concurrency, illegal.BelowLimit)
    ∷ []

-- an answer, a success or a failure: an attempt runs, and its deadline has not passed
abbrev pub answer_checks : Situation → ℕ → List (Bool × Illegal)
answer_checks x now =
    (is_unknown x.standing, illegal.Unknown)
    ∷ (not (is_running x.standing), illegal.NotRunning)
    ∷ (is_past_deadline now x.standing, illegal.Late)
    ∷ []

abbrev pub timeout_checks : Situation → ℕ → List (Bool × Illegal)
timeout_checks x now =
    (is_unknown x.standing, illegal.Unknown)
    ∷ (not (is_running x.standing), illegal.NotRunning)
    ∷ (not (is_past_deadline now x.standing), illegal.NotDue)
    ∷ []

abbrev pub failure_checks : Situation → ℕ → Cause → List (Bool × Illegal)
failure_checks x now Timeout = timeout_checks x now
failure_checks x now cause = answer_checks x now

abbrev pub interrupt_checks : Situation → List (Bool × Illegal)
interrupt_checks x = (is_unknown x.standing, illegal.Unknown) ∷ (not (is_running x.standing), illegal.NotRunning) ∷ []

abbrev pub expire_checks : Situation → ℕ → List (Bool × Illegal)
expire_checks x now =
    (is_unknown x.standing, illegal.Unknown)
    ∷ (is_running x.standing || is_ended x.standing || nat_lt now x.too_old_from, illegal.NotDue)
    ∷ []

abbrev pub collect_checks : Situation → List (Bool × Illegal)
collect_checks x = (is_unknown x.standing, illegal.Unknown) ∷ (not (is_ended x.standing), illegal.NotEnded) ∷ []

-- what a command of this kind asks of the events
abbrev pub state_checks : Settings → Situation → Command → Kind → List (Bool × Illegal)
state_checks s x c Accept = accept_checks s x
state_checks s x c Start = start_checks s x c.time
state_checks s x c Succeed = answer_checks x c.time
state_checks s x c (Fail cause) = failure_checks x c.time cause
state_checks s x c Throttle = throttle_checks s x c.time
state_checks s x c Interrupt = interrupt_checks x
state_checks s x c Expire = expire_checks x c.time
state_checks s x c Collect = collect_checks x
state_checks s x c (Configure policy) = []

-- why a command is refused in this situation, if it is
unfoldable pub refusal_in : Settings → Situation → Command → Option Illegal
refusal_in s x c = first_failed (shape_checks s c c.kind ++ clock_check x c ∷ state_checks s x c c.kind)
