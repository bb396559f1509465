use Rattle.http_port.proofs.Made.{changed_or_not}
use Rattle.http_port.proofs.answering.set.Goals as goal

pub returns : goal.returns
returns c = changed_or_not c.insert.result _ _ c.insert.ensures.ok c.insert.ensures.err
