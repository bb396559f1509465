use Rattle.std.proofs.Common.{length}
use Rattle.api_core.proofs.reply.+has_fixed.Given as goal

abbrev pub decreases-has_fixed : goal.decreases-has_fixed
decreases-has_fixed l = length l.list.now
