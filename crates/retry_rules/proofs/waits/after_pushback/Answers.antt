use Rattle.std.proofs.Common.{◌-◌, ◌≤◌, ◌<◌, ◌^◌, arith}
use Rattle.std.proofs.Math.Nat.{pow-le-pow_right}
use Rattle.retry_rules.proofs.waits.after_pushback.Goals as goal

pub returns-then-k-gt9 : goal.returns-then-k-gt9
returns-then-k-gt9 c =
    let base : 0 < 2 = omega arith in
    let far : 9 ≤ c.args.k - 1 = omega arith in
    let long : 2 ^ 9 ≤ 2 ^ (c.args.k - 1) = pow-le-pow_right base far in
    omega (arith, long)
