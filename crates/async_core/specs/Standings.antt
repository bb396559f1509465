-- Where an event stands after a command, by the rules that it is judged by.
use Rattle.std.specs.Prelude.{ℕ, ◌+◌, ◌-◌, ◌*◌, ◌^◌, min, Bool, true, false, if◌then◌else◌, nat_lt, nat_le, ◌==◌}
use Rattle.invoke_records.specs.declared.command.Command.{Command}
use Rattle.invoke_records.specs.declared.command.Kind.{Kind}
use Rattle.invoke_records.specs.declared.command.Kind.TheVariants.{Accept, Start, Succeed, Fail, Throttle, Interrupt, Expire, Collect, Configure}
use Rattle.invoke_records.specs.declared.row.Outcome.TheVariants.{Success, RetriesExhausted, EventAgeExceeded}
use Rattle.invoke_records.specs.declared.row.Standing.{Standing}
use Rattle.invoke_records.specs.declared.row.Standing.TheVariants as standing
use Rattle.retry_rules.specs.declared.policy.RetryPolicy.{RetryPolicy}
use Rattle.retry_rules.specs.declared.settings.Settings.{Settings}

-- the rules that an event is judged by
pub record Rules : Type 0 where
  pub retries : ℕ
  pub age : ℕ
  pub timeout : ℕ

-- a retry policy, and the timeout of the settings
abbrev pub rules_with : Settings → RetryPolicy → Rules
rules_with s policy = record { retries = policy.retries; age = policy.age; timeout = s.timeout }

-- the wait after the n-th failure, and after the k-th push-back since the last failure, in milliseconds
abbrev pub after_failure : ℕ → ℕ
after_failure n = 60000 * n

abbrev pub after_pushback : ℕ → ℕ
after_pushback k = 1000 * min (2 ^ (k - 1)) 300

-- after a failure that makes it so many, of an event that may be tried again so often
abbrev pub failed_at : ℕ → ℕ → ℕ → Standing
failed_at retries failures time =
    if nat_lt retries failures then standing.Ended RetriesExhausted time
    else standing.DueAgain (time + after_failure failures)

-- where an event stands by its last command, which is of this kind, where it has failed and was pushed back so often
abbrev pub standing_by : Rules → ℕ → ℕ → Command → Kind → Standing
standing_by rules failures push_backs c Accept = standing.Waiting c.time
standing_by rules failures push_backs c Start = standing.Running c.environment (c.time + 1000 * rules.timeout)
standing_by rules failures push_backs c Succeed = standing.Ended Success c.time
standing_by rules failures push_backs c (Fail cause) = failed_at rules.retries failures c.time
standing_by rules failures push_backs c Throttle = standing.DueAgain (c.time + after_pushback push_backs)
standing_by rules failures push_backs c Interrupt = standing.DueAgain (c.time + after_pushback push_backs)
standing_by rules failures push_backs c Expire = standing.Ended EventAgeExceeded c.time
standing_by rules failures push_backs c Collect = standing.Unknown
standing_by rules failures push_backs c (Configure policy) = standing.Unknown

-- ## Tests of a standing

abbrev pub is_unknown : Standing → Bool
is_unknown standing.Unknown = true
is_unknown other = false

abbrev pub is_ended : Standing → Bool
is_ended (standing.Ended outcome at) = true
is_ended other = false

abbrev pub is_running : Standing → Bool
is_running (standing.Running environment deadline) = true
is_running other = false

abbrev pub runs_in : ℕ → Standing → Bool
runs_in environment (standing.Running e deadline) = e == environment
runs_in environment other = false

-- waiting or due again, and due
abbrev pub is_due : ℕ → Standing → Bool
is_due now (standing.Waiting due) = nat_le due now
is_due now (standing.DueAgain due) = nat_le due now
is_due now other = false

abbrev pub is_past_deadline : ℕ → Standing → Bool
is_past_deadline now (standing.Running environment deadline) = nat_le deadline now
is_past_deadline now other = false
