use Rattle.http_front.proofs.port_application.ReplyingFuture.poll.Goals as goal

pub returns-in-Pending-clause-same : goal.returns-in-Pending-clause-same
returns-in-Pending-clause-same g c = λ telling tells. (c.in-Pending.ensures.same telling.released tells.0, tells.1)
