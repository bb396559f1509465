use Rattle.std.proofs.Common.{length}
use Rattle.api_core.proofs.routing.+all_taken.Given as goal

abbrev pub decreases-all_taken : goal.decreases-all_taken
decreases-all_taken l = length l.pieces.now
