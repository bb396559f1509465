use Rattle.std.proofs.Common.{length}
use Rattle.admin_replies.proofs.phase_lines.+put_times.Given as goal

abbrev pub decreases-put_times : goal.decreases-put_times
decreases-put_times l = length l.seen.now
