use Rattle.std.proofs.Common.{length}
use Rattle.api_core.proofs.features.+any_account.Given as goal

abbrev pub decreases-any_account : goal.decreases-any_account
decreases-any_account l = length l.features.now
