use Rattle.std.proofs.Common.{◌-◌}
use Rattle.broker_commands.proofs.site.Site.write_zeros.Given as goal

abbrev pub decreases-loop-done : goal.decreases-loop-done
decreases-loop-done g l = l.to - l.done
