use Rattle.std.proofs.Common.{length}
use Rattle.admin_replies.proofs.measuring.+parked_in.Given as goal

abbrev pub decreases-parked_in : goal.decreases-parked_in
decreases-parked_in l = length l.environments.now
