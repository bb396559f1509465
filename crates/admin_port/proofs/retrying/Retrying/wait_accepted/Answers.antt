use Rattle.std.proofs.Common.{◌≡◌, Option, Some, None, inl, inr, ap, subst, ◌∙◌}
use Rattle.std.specs.Prelude.{IfSome, IfNone}
use Rattle.admin_replies.specs.Retrying.{status_by}
use Rattle.admin_port.specs.Asking.{accepted_by}
use Rattle.admin_port.specs.declared.asked.Accepted.{Accepted}
use Rattle.admin_port.proofs.Listed.{of_some}
use Rattle.admin_port.proofs.Tried.{leads_more}
use Rattle.admin_port.proofs.retrying.Retrying.wait_accepted.Goals as goal

pub returns-in-Err-clause-leads : goal.returns-in-Err-clause-leads
returns-in-Err-clause-leads g c = λ reply tells. (tells.0, tells.1 ∙ c.in-Err.ensures.waits, tells.2)

pub returns-in-Some-clause-leads : goal.returns-in-Some-clause-leads
returns-in-Some-clause-leads g c =
    let accepted = subst (λ (r : Option Accepted). IfSome r (λ a. accepted_by c.in-Ok.answered.told.answer ≡ Some a.id)) c.in-Some.is c.accepted-status.ensures.some in
    leads_more _ _ _
    (λ reply tells. (c.in-Ok.answered, c.in-Ok.ensures.told, inr (c.in-Some.accepted.id, accepted, tells)))
    c.collect.result c.collect.ensures.leads

pub returns-in-None-clause-leads : goal.returns-in-None-clause-leads
returns-in-None-clause-leads g c =
    let none = subst (λ (r : Option Accepted). IfNone r (accepted_by c.in-Ok.answered.told.answer ≡ None)) c.in-None.is c.accepted-status.ensures.none in
    of_some _ _
    (λ reply is. (c.in-Ok.answered, c.in-Ok.ensures.told, inl (none, is ∙ ap status_by c.accepted-status.ensures.status)))
    c.unaccepted.result.reply c.unaccepted.ensures
