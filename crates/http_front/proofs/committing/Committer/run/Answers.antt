use Rattle.http_front.proofs.committing.Committer.run.Goals as goal

pub returns-clause-learned : goal.returns-clause-learned
returns-clause-learned g c =
    let run = c.commit_all-ran.ensures.run in record { turns = run.turns; said = run.said; pending = run.pending; ended = run.ended; made = run.made.0 }

pub returns-clause-served : goal.returns-clause-served
returns-clause-served g c = c.commit_all-ran.ensures.run.made.1
