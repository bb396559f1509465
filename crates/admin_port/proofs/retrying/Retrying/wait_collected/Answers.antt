use Rattle.std.proofs.Common.{inl, inr, ◌∙◌}
use Rattle.admin_port.proofs.Listed.{of_some}
use Rattle.admin_port.proofs.retrying.Retrying.wait_collected.Goals as goal

pub returns-in-Ok-clause-leads : goal.returns-in-Ok-clause-leads
returns-in-Ok-clause-leads g c =
    rw (← c.id.ensures) (of_some _ _ (λ reply tells. inr (c.in-Ok.answered, c.in-Ok.ensures.told, tells)) c.collected.result.reply c.collected.ensures)

pub returns-in-Err-clause-leads : goal.returns-in-Err-clause-leads
returns-in-Err-clause-leads g c = λ reply tells.
    elim tells [ inl left ↦ inl left | inr told ↦ inr (told.0, told.1 ∙ c.in-Err.ensures.waits, told.2) ]
