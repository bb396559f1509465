-- How many of the commands that were issued since the opening are of which kind.
use Rattle.std.specs.Prelude.{ℕ, ◌+◌, ◌<◌, ◌^◌, Bool, true, false, List}
use Rattle.std.specs.List.{count_by}
use Rattle.invoke_records.specs.declared.command.Kind.{Kind}
use Rattle.invoke_records.specs.declared.command.Kind.TheVariants.{Accept, Start, Succeed, Fail, Throttle, Interrupt, Expire, Collect, Configure}
use Rattle.receipts.specs.declared.mark.Mark.{Mark}
use Rattle.receipts.specs.declared.command_counters.CommandCounters.{CommandCounters}

abbrev pub is_accept : Kind → Bool
is_accept Accept = true
is_accept other = false

abbrev pub is_start : Kind → Bool
is_start Start = true
is_start other = false

abbrev pub is_success : Kind → Bool
is_success Succeed = true
is_success other = false

abbrev pub is_failure : Kind → Bool
is_failure (Fail cause) = true
is_failure other = false

abbrev pub is_throttle : Kind → Bool
is_throttle Throttle = true
is_throttle other = false

abbrev pub is_interrupt : Kind → Bool
is_interrupt Interrupt = true
is_interrupt other = false

abbrev pub is_expiry : Kind → Bool
is_expiry Expire = true
is_expiry other = false

abbrev pub is_collection : Kind → Bool
is_collection Collect = true
is_collection other = false

abbrev pub is_policy : Kind → Bool
is_policy (Configure policy) = true
is_policy other = false

-- how many marks are of a command of such a kind
abbrev pub count_of : (Kind → Bool) → List Mark → ℕ
count_of is marks = count_by (λ (mark : Mark). is mark.kind) marks

unfoldable pub counters_of : List Mark → CommandCounters
counters_of marks = record {
  accepted = count_of is_accept marks;
  started = count_of is_start marks;
  succeeded = count_of is_success marks;
  failed = count_of is_failure marks;
  throttled = count_of is_throttle marks;
  interrupted = count_of is_interrupt marks;
  expired = count_of is_expiry marks;
  collected = count_of is_collection marks;
  configured = count_of is_policy marks;
}

-- one more of this kind
abbrev pub counted : CommandCounters → Kind → CommandCounters
counted counters Accept = record counters { accepted = counters.accepted + 1 }
counted counters Start = record counters { started = counters.started + 1 }
counted counters Succeed = record counters { succeeded = counters.succeeded + 1 }
counted counters (Fail cause) = record counters { failed = counters.failed + 1 }
counted counters Throttle = record counters { throttled = counters.throttled + 1 }
counted counters Interrupt = record counters { interrupted = counters.interrupted + 1 }
counted counters Expire = record counters { expired = counters.expired + 1 }
counted counters Collect = record counters { collected = counters.collected + 1 }
counted counters (Configure policy) = record counters { configured = counters.configured + 1 }

-- one more of any kind can be counted in 64 bits
pub record HasRoom (counters : CommandCounters) : Type 0 where
  pub accepted : counters.accepted + 1 < 2 ^ 64
  pub started : counters.started + 1 < 2 ^ 64
  pub succeeded : counters.succeeded + 1 < 2 ^ 64
  pub failed : counters.failed + 1 < 2 ^ 64
  pub throttled : counters.throttled + 1 < 2 ^ 64
  pub interrupted : counters.interrupted + 1 < 2 ^ 64
  pub expired : counters.expired + 1 < 2 ^ 64
  pub collected : counters.collected + 1 < 2 ^ 64
  pub configured : counters.configured + 1 < 2 ^ 64
