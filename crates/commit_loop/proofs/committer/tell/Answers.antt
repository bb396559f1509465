use Rattle.std.proofs.Common.{[], ◌∷◌}
use Rattle.commit_loop.specs.Committer.{said_of, slept}
use Rattle.commit_loop.proofs.committer.tell.Goals as goal

pub returns : goal.returns
returns g c =
    g.met.C.Committing.goes_on _ _ _ (said_of (g.C.Committing.breaks c.args.why)) (slept ∷ []) c.say.ensures c.sleep.ensures.steps
