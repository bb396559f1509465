use Rattle.std.proofs.Common.{length}
use Rattle.api_core.proofs.routing.+at_hole.Given as goal

abbrev pub decreases-at_hole : goal.decreases-at_hole
decreases-at_hole l = length l.pieces.now
