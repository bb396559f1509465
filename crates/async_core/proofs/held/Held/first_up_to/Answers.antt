-- The rows of the keys are those that stand in the index.
use Rattle.async_core.proofs.Walks.{has_those}
use Rattle.async_core.proofs.held.Held.first_up_to.Goals as goal

pub returns : goal.returns
returns c = rw (← c.self.view_is) (λ seen among chosen.
    let found = c.first_by_keys.ensures seen among chosen in
    (found.0, found.1, found.2, has_those _ _ _ _ _ c.self.invariant c.args.index c.args.last found.0 found.3, found.4))
