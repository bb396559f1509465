use Rattle.std.proofs.Common.{length}
use Rattle.admin_replies.proofs.phase_memory.+put_noted.Given as goal

abbrev pub decreases-put_noted : goal.decreases-put_noted
decreases-put_noted l = length l.environments.now
