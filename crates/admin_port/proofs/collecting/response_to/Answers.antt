use Rattle.admin_port.proofs.Listed.{told_list, told_fault}
use Rattle.admin_port.proofs.collecting.response_to.Goals as goal

pub returns-in-Some : goal.returns-in-Some
returns-in-Some g c =
    told_list _ _ c.args.entries.now c.in-Some.lines.items c.list_reply.result c.ok.result c.ok.ensures.value c.in-Some.ensures
    (rw c.as_slice.ensures.value at c.list_reply.ensures)

pub returns-in-None : goal.returns-in-None
returns-in-None g c = told_fault _ _ _ c.unavailable.result.reply c.unavailable.ensures
