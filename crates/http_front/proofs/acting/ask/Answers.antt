use Rattle.http_front.proofs.acting.ask.Goals as goal

pub returns : goal.returns
returns g c = rw (c.new.ensures.seen, c.new.ensures.slot) c.in_ok-arrived.ensures.done
