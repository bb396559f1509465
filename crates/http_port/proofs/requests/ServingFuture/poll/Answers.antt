use Rattle.std.proofs.Common.{◌∙◌, sym, subst, option_map}
use Rattle.std.proofs.lemmas.Result.{IfOk-weaker}
use Rattle.std.specs.Arc.{arc_value}
use Rattle.http_port.specs.Reading.{Reads}
use Rattle.http_port.specs.Serving.{Answers}
use Rattle.http_port.proofs.Sends.{if_ready, on_pending, there, not_there, only_reply, sends_of, sends_waited}
use Rattle.http_port.proofs.requests.ServingFuture.poll.Goals as goal

pub returns-in-Pending-clause-same : goal.returns-in-Pending-clause-same
returns-in-Pending-clause-same g c = λ sent gives.
    IfOk-weaker sent _ _ (sends_of g.A.Future.Future.gives g.A.Response.IntoResponse.tells _ _ c.in-Pending.ensures.later) gives

pub returns-in-Pending-clause-registered : goal.returns-in-Pending-clause-registered
returns-in-Pending-clause-registered g c = (c.in-Pending.ensures.armed, λ source needs. not_there _ _ _ c.in-Pending.ensures.reads needs)

pub returns-in-Ready-Ok-clause-value : goal.returns-in-Ready-Ok-clause-value
returns-in-Ready-Ok-clause-value g c =
    let now = c.args.self.now in
    let may = Answers g.A.Application.answers now.forbidden now.reply (option_map arc_value now.application) now.head (Reads now.reading) in
    let is = subst may c.in-Ready-Ok.field-0-is c.in-Ready-Ok.ensures.answers in
    if_ready c.poll_reply.result _ _ (λ sent given. IfOk-weaker sent _ _
    (sends_of g.A.Future.Future.gives g.A.Response.IntoResponse.tells _ _ (λ answered known. subst may (sym known) is)) given) c.poll_reply.ensures.given

pub returns-in-Ready-Ok-clause-same : goal.returns-in-Ready-Ok-clause-same
returns-in-Ready-Ok-clause-same g c =
    let now = c.args.self.now in
    let next = c.poll_reply.new.self in
    let may = Answers g.A.Application.answers now.forbidden now.reply (option_map arc_value now.application) now.head (Reads now.reading) in
    let is = subst may c.in-Ready-Ok.field-0-is c.in-Ready-Ok.ensures.answers in
    on_pending c.poll_reply.result _ _ (λ waits. λ sent gives.
    let later = there next.reply _ waits in
    IfOk-weaker sent _ _ (sends_waited g.A.Future.Future.gives g.A.Response.IntoResponse.tells _ may c.in-Ready-Ok.reply later.0 is
    (λ answered again. only_reply g.A.Application.answers now.forbidden next.forbidden now.reply next.reply (option_map arc_value now.application) (option_map arc_value next.application)
    now.head next.head (Reads now.reading) (Reads next.reading) c.in-Ready-Ok.reply later.0 answered is (c.poll_reply.ensures.same ∙ c.poll_body.ensures.same) later.1 again)
    later.2.1) gives) c.poll_reply.ensures.waits
