use Rattle.std.proofs.Common.{ap, ◌∙◌}
use Rattle.std.proofs.lemmas.Option.{IfSome_then}
use Rattle.http_port.specs.Answering.{Message}
use Rattle.admin_port.proofs.refusing.line_of.Goals as goal

pub returns-clause-line : goal.returns-clause-line
returns-clause-line c = IfSome_then c.response_of.result c.response_of.ensures (λ response is. (c.in-Ok.reply, c.in-Ok.ensures.status, c.in-Ok.ensures.body, is))

pub returns-clause-status : goal.returns-clause-status
returns-clause-status c = IfSome_then c.response_of.result c.response_of.ensures (λ response is. ap (λ (m : Message). m.status) is ∙ c.in-Ok.ensures.status)
