use Rattle.admin_port.proofs.Told.{told_prompt}
use Rattle.admin_port.proofs.admin_context.AdminContext.tell_at_once.Goals as goal

pub returns-in-Some : goal.returns-in-Some
returns-in-Some g c =
    told_prompt c.args.self.now.baseline c.args.request.now c.measures-measures.result c.deref-3.result.now _ c.in-Some.told c.ok.result
    c.ok.ensures.value c.in-Some.ensures
