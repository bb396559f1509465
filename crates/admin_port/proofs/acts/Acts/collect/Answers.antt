use Rattle.std.proofs.Common.{Err, ap}
use Rattle.admin_port.proofs.Acted.{list_refused}
use Rattle.admin_port.proofs.acts.Acts.collect.Goals as goal

pub returns-in-Err-clause-refused : goal.returns-in-Err-clause-refused
returns-in-Err-clause-refused g c =
    list_refused c.in-Err.why c.args.list.now c.refuse_list.result (λ is. c.in-Err.ensures.text (ap Err is)) (λ is. c.in-Err.ensures.many (ap Err is)) c.refuse_list.ensures
