use Rattle.std.proofs.Common.{[], ◌∷◌, ◌++◌, Ok, Err}
use Rattle.commit_loop.specs.Committer.{committed, failed, raised, rang, slept, said_of}
use Rattle.commit_loop.proofs.committer.commit.Goals as goal

pub returns-in-Ok : goal.returns-in-Ok
returns-in-Ok g c =
    let n = g.C.Committing.number c.in-Ok.durable in
    (Ok n, g.met.C.Committing.goes_on _ _ _ (committed n ∷ []) (raised n ∷ rang n ∷ []) (c.in-Ok.ensures) c.show.ensures)

pub returns-in-Err : goal.returns-in-Err
returns-in-Err g c =
    let broke = g.C.Committing.breaks c.in-Err.why in
    (Err broke, g.met.C.Committing.goes_on _ _ _ (failed broke ∷ []) (said_of broke ++ slept ∷ []) (c.in-Err.ensures) c.tell.ensures)
