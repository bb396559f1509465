use Rattle.std.proofs.Common.{length}
use Rattle.signed_requests.proofs.keys_file.+rights_with.Given as goal

abbrev pub decreases-rights_with : goal.decreases-rights_with
decreases-rights_with l = length l.words.now
