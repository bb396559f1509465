use Rattle.http_front.proofs.ticking.tick_all.Goals as goal

pub returns-clause-learned : goal.returns-clause-learned
returns-clause-learned g c =
    let run = c.tick_all-ran.ensures.run in record { turns = run.turns; said = run.said; pending = run.pending; ended = run.ended; made = run.made.0 }
