-- By the kind of the command.
use Rattle.std.proofs.Common.{ℕ, ◌+◌, ◌-◌, ◌^◌, ◌≤◌, ◌<◌, Bool, true, false, nat_lt, if◌then◌else◌, refl, arith}
use Rattle.std.proofs.Math.Pow.{pow_pos}
use Rattle.invoke_records.specs.declared.command.Command.{Command}
use Rattle.invoke_records.specs.declared.command.Kind.{Kind}
use Rattle.invoke_records.specs.declared.command.Kind.TheVariants.{Accept, Start, Succeed, Fail, Throttle, Interrupt, Expire, Collect, Configure}
use Rattle.invoke_records.specs.declared.row.Outcome.TheVariants.{RetriesExhausted}
use Rattle.invoke_records.specs.declared.row.Standing.TheVariants as standing
use Rattle.async_core.specs.NextMoment.{WaitsASecond}
use Rattle.async_core.specs.Rules.{standing_next, one_more}
use Rattle.async_core.specs.Standings.{Rules, after_failure, after_pushback}
use Rattle.async_core.proofs.laws.a_wait_takes_a_second.Goals as goal

pushed_back : (time k : ℕ) → time + 1000 ≤ time + after_pushback k
pushed_back time k = let some : 0 < 2 ^ (k - 1) = pow_pos (k - 1) in omega arith

failed : (time failures : ℕ) (ends : Bool) → 1 ≤ failures → WaitsASecond time (if ends then standing.Ended RetriesExhausted time else standing.DueAgain (time + after_failure failures))
failed time failures true one = tt
failed time failures false one = omega arith

waits : (rules : Rules) (c : Command) (kind : Kind) (failures push_backs : ℕ) → 1 ≤ rules.timeout → WaitsASecond c.time (standing_next rules c kind failures push_backs)
waits rules c Accept failures push_backs least = refl
waits rules c Start failures push_backs least = omega arith
waits rules c Succeed failures push_backs least = tt
waits rules c (Fail cause) failures push_backs least = failed c.time (one_more failures) (nat_lt rules.retries (one_more failures)) (omega arith)
waits rules c Throttle failures push_backs least = pushed_back c.time (one_more push_backs)
waits rules c Interrupt failures push_backs least = pushed_back c.time (one_more push_backs)
waits rules c Expire failures push_backs least = tt
waits rules c Collect failures push_backs least = tt
waits rules c (Configure policy) failures push_backs least = tt

pub returns : goal.returns
returns c = λ rules command failures push_backs least. waits rules command command.kind failures push_backs least
