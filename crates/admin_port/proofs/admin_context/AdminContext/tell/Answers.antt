use Rattle.admin_port.proofs.Told.{told_now}
use Rattle.admin_port.proofs.admin_context.AdminContext.tell.Goals as goal

pub returns : goal.returns
returns g c =
    told_now c.args.self.now.baseline c.args.request.now c.args.view.now c.measures-measures.result c.deref-2.result.now c.now_or_zero-now.result
    c.tell-reply.result c.ok.result c.ok.ensures.value c.tell-reply.ensures
