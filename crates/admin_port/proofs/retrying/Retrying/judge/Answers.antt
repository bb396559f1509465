use Rattle.admin_port.proofs.retrying.Retrying.judge.Goals as goal

pub returns-in-Ok-clause-leads : goal.returns-in-Ok-clause-leads
returns-in-Ok-clause-leads g c = rw (rw c.as_slice.ensures at c.in-Ok.ensures.payload) c.accept.ensures.leads
