use Rattle.std.proofs.Common.{length}
use Rattle.signed_requests.proofs.keys.+key_named.Given as goal

abbrev pub decreases-key_named : goal.decreases-key_named
decreases-key_named l = length l.keys.now
