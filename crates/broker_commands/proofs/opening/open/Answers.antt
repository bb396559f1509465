use Rattle.broker_core.specs.Refusals.{IsCutOff}
use Rattle.broker_commands.proofs.Refused.{refused_as}
use Rattle.broker_commands.proofs.opening.open.Goals as goal

pub returns-clause-refused : goal.returns-clause-refused
returns-clause-refused g c = λ honest s history durable legal stops.
    refused_as IsCutOff c.without_disk.result c.open.result c.without_disk.ensures.err c.without_disk.ensures.same
    (c.open.ensures.refused honest s history durable legal stops)
