use Rattle.std.proofs.Common.{◌∙◌}
use Rattle.admin_port.proofs.Listed.{told_fault, told_later}
use Rattle.admin_port.proofs.collecting.CollectingFuture.poll.Goals as goal

pub returns-in-Pending-clause-same : goal.returns-in-Pending-clause-same
returns-in-Pending-clause-same g c = λ shown tells. told_later _ _ _ _ shown.reply (c.step.ensures.ids ∙ c.loop-place.invariant.ids) tells

pub returns-in-Ready-false-clause-value : goal.returns-in-Ready-false-clause-value
returns-in-Ready-false-clause-value g c = told_fault _ _ _ c.unavailable.result.reply c.unavailable.ensures

pub returns-clause-value : goal.returns-clause-value
returns-clause-value g c =
    told_later _ _ _ _ c.response_to.result.reply c.loop-place.invariant.ids (rw c.as_slice.ensures.value at c.response_to.ensures)
