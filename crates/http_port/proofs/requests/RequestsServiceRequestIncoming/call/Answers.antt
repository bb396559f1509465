use Rattle.std.proofs.Common.{None, refl, ap, ◌∙◌, option_map}
use Rattle.std.specs.Arc.{arc_value}
use Rattle.http.specs.declared.request.Parts.{Parts}
use Rattle.http.specs.Request.{head_of, body_of}
use Rattle.http_port.specs.Browsers.{forbidden_of}
use Rattle.http_port.specs.declared.hosts.Hosts.{Hosts}
use Rattle.http_port.proofs.Sends.{first_of, second_of, copy_is, begins_for, sends_of}
use Rattle.http_port.proofs.requests.RequestsServiceRequestIncoming.call.Goals as goal

pub returns-clause-called : goal.returns-clause-called
returns-clause-called g c =
    let head = first_of c.into_parts-head.result (head_of c.args.req) (body_of c.args.req) c.into_parts-head.ensures in
    let body = second_of c.into_parts-head.result (head_of c.args.req) (body_of c.args.req) c.into_parts-head.ensures in
    sends_of g.A.Future.Future.gives g.A.Response.IntoResponse.tells _ _
    (begins_for g.A.Application.answers c.args.self.now.hosts.value (arc_value c.args.self.now.application) c.args.req c.of.result None
    (option_map arc_value c.ok.result) c.into_parts-head.result.0 c.new-reading.result
    (record {
      forbids = c.of.ensures ∙ ap (λ (h : Hosts). forbidden_of h c.into_parts-head.result.0.headers) c.deref-3.ensures
          ∙ ap (λ (p : Parts). forbidden_of c.args.self.now.hosts.value p.headers) head;
      waits = refl;
      asks = copy_is arc_value c.try_clone.result c.ok.result (arc_value c.args.self.now.application) c.ok.ensures.value c.try_clone.ensures;
      its_head = head;
      its_body = c.new-reading.ensures.body ∙ body;
      unread = c.new-reading.ensures.bytes;
    }))
