use Rattle.std.proofs.Common.{ap, ◌∙◌}
use Rattle.http_port.specs.Answering.{Message, with_bytes}
use Rattle.http_front.proofs.replying.response_of.Goals as goal

pub returns : goal.returns
returns c = c.with_body.ensures ∙ ap (λ (m : Message). with_bytes m c.args.reply.body) c.in_ok-draft.ensures
