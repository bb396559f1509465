use Rattle.http_port.proofs.Made.{made}
use Rattle.http_port.proofs.draft.response_of.Goals as goal

pub returns : goal.returns
returns c = made c.from_parts.result c.args.head c.new.result c.args.body c.from_parts.ensures.head c.from_parts.ensures.body c.new.ensures
