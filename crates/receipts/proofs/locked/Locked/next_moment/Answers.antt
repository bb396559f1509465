-- The table that the hall shows is that of its view.
use Rattle.std.proofs.Common.{subst}
use Rattle.async_core.specs.State.{State}
use Rattle.async_core.specs.NextMoment.{IsNextMoment}
use Rattle.receipts.proofs.locked.Locked.next_moment.Goals as goal

pub returns : goal.returns
returns g c = subst (λ (t : State). IsNextMoment t.table.rows c.args.now c.next_moment.result) c.table.ensures c.next_moment.ensures
