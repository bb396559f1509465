use Rattle.std.proofs.Common.{ap, subst, ◌∙◌}
use Rattle.std.proofs.lemmas.Option.{IfSome_then}
use Rattle.api_core.specs.declared.reply.Reply.{Reply}
use Rattle.http_port.specs.Answering.{Message}
use Rattle.http_front.specs.Telling.{IsWithId}
use Rattle.http_front.proofs.Refusing.{status_of}
use Rattle.http_front.proofs.replying.refusal_of.Goals as goal

pub returns-clause-status : goal.returns-clause-status
returns-clause-status c =
    IfSome_then c.response_of.result c.response_of.ensures (λ response is.
    ap (λ (m : Message). m.status) is ∙ c.with_id.ensures.status ∙ ap (λ (r : Reply). r.status) c.in-Ok.ensures
    ∙ status_of c.args.manner.dialect c.args.settings.now c.args.manner.audience c.args.why)

pub returns-clause-told : goal.returns-clause-told
returns-clause-told c =
    IfSome_then c.response_of.result c.response_of.ensures (λ response is.
    (c.with_id.result, subst (λ (r : Reply). IsWithId c.args.manner.id r c.with_id.result) c.in-Ok.ensures c.with_id.ensures.told, is))
