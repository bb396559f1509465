use Rattle.std.proofs.Common.{length}
use Rattle.signed_requests.proofs.authorization.+are_signed.Given as goal

abbrev pub decreases-are_signed : goal.decreases-are_signed
decreases-are_signed l = length l.names.now
