use Rattle.std.proofs.Common.{[], ◌∷◌}
use Rattle.commit_loop.specs.Committer.{said_broken, rang_all}
use Rattle.commit_loop.proofs.committer.say_broken.Goals as goal

pub returns : goal.returns
returns g c = g.met.C.Committing.goes_on _ _ _ (said_broken ∷ []) (rang_all ∷ []) c.say_broken.ensures.steps c.ring_all.ensures.steps
