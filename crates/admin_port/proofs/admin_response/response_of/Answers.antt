use Rattle.std.proofs.Common.{List, ℕ, ap, ◌∙◌}
use Rattle.http_port.specs.Answering.{Message, with_bytes}
use Rattle.admin_port.specs.Replying.{head_told}
use Rattle.admin_port.proofs.admin_response.response_of.Goals as goal

pub returns : goal.returns
returns c =
    c.with_body.ensures ∙ ap (λ (m : Message). with_bytes m c.in-Ok.body) c.in_ok-draft.ensures
    ∙ ap (λ (b : List ℕ). with_bytes (head_told c.args.reply) b) c.in-Ok.ensures.ok
