use Rattle.std.proofs.Common.{length}
use Rattle.signed_requests.proofs.authorization.+part_under.Given as goal

abbrev pub decreases-part_under : goal.decreases-part_under
decreases-part_under l = length l.parts.now
