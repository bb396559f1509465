use Rattle.http_front.proofs.ticking.tick.Goals as goal

pub returns-in-Ok-clause-finds : goal.returns-in-Ok-clause-finds
returns-in-Ok-clause-finds g c = rw (c.split-tried.ensures.before, c.split-tried.ensures.answer) c.make_move.ensures.finds
