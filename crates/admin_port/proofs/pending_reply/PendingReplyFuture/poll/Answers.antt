use Rattle.admin_port.proofs.pending_reply.PendingReplyFuture.poll.Goals as goal

pub returns-in-Pending-clause-same : goal.returns-in-Pending-clause-same
returns-in-Pending-clause-same g c = λ shown tells. (tells.0, c.in-Pending.ensures.same tells.0 tells.1, tells.2)
