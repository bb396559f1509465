use Rattle.std.proofs.Common.{length}
use Rattle.api_core.proofs.functions.+colon_at.Given as goal

abbrev pub decreases-colon_at : goal.decreases-colon_at
decreases-colon_at l = length l.text.now
