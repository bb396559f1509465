use Rattle.std.proofs.Common.{inr, ◌∙◌}
use Rattle.admin_port.proofs.Tried.{leads_more}
use Rattle.admin_port.proofs.retrying.Retrying.accept.Goals as goal

pub returns-in-Some-clause-leads : goal.returns-in-Some-clause-leads
returns-in-Some-clause-leads g c =
    leads_more _ _ _ (λ reply tells. inr (tells.0, tells.1 ∙ c.in-Some.ensures, tells.2)) c.wait_accepted.result c.wait_accepted.ensures.leads
