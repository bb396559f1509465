use Rattle.std.proofs.Common.{length}
use Rattle.api_core.proofs.routing.+route_after.Given as goal

abbrev pub decreases-route_after : goal.decreases-route_after
decreases-route_after l = length l.routes.now
