-- The first that is ripe, or the first of those that run and of those that are too old.
use Rattle.std.specs.Option.{option_copied}
use Rattle.async_core.proofs.Expiries.{expires}
use Rattle.async_core.proofs.next.first_expiring.Goals as goal

pub returns : goal.returns
returns c = expires c.args.held.now c.args.now (option_copied c.first_in-late.result) (option_copied c.first_up_to.result) c.first_in-late.ensures c.first_up_to.ensures
