use Rattle.std.proofs.Common.{length}
use Rattle.operator_view.proofs.limits.+read_behind.Given as goal

abbrev pub decreases-read_behind : goal.decreases-read_behind
decreases-read_behind l = length l.digits.now
