use Rattle.std.proofs.Common.{length}
use Rattle.admin_replies.proofs.phase_memory.+unpolled_from.Given as goal

abbrev pub decreases-unpolled_from : goal.decreases-unpolled_from
decreases-unpolled_from l = length l.seen.now
