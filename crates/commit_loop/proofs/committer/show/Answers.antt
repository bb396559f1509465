use Rattle.std.proofs.Common.{[], ◌∷◌}
use Rattle.commit_loop.specs.Committer.{raised, rang}
use Rattle.commit_loop.proofs.committer.show.Goals as goal

pub returns : goal.returns
returns g c = g.met.C.Committing.goes_on _ _ _ (raised _ ∷ []) (rang _ ∷ []) c.raise.ensures c.ring.ensures.steps
