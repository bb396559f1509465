-- The first moment of two indexes is the next.
use Rattle.std.proofs.Common.{◌+◌, ap}
use Rattle.async_core.proofs.NextMoments.{next_moment}
use Rattle.async_core.proofs.next_moment.next_moment_in.Goals as goal

pub returns : goal.returns
returns c =
    next_moment c.args.held.now c.args.now _ (ap (λ n. n + 1) c.from-low.ensures) c.first_ripe.result c.first_expiry.result c.earlier.result c.first_ripe.ensures c.first_expiry.ensures c.earlier.ensures
