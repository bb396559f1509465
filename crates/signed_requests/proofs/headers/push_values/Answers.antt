use Rattle.std.proofs.Common.{◌++◌, sym, ap, ◌∙◌}
use Rattle.http_header.specs.HeaderMap.{get_all}
use Rattle.http_header.specs.FieldValue.{FieldValue}
use Rattle.http_header.specs.Token.{lowercase}
use Rattle.signed_requests.specs.Canonical.{trim_all}
use Rattle.signed_requests.proofs.Joining.{put_joined}
use Rattle.signed_requests.proofs.headers.push_values.Goals as goal

pub returns : goal.returns
returns c =
    put_joined 44 trim_all (λ (v : FieldValue). v.bytes) (get_all c.args.headers.now (lowercase c.args.name.now)) c.in-Some.first.now c.next.new.self
    c.args.out.now.items c.push_trimmed.new.out.items c.push_more.new.out.items
    (sym (c.iter-values.ensures ∙ c.get_all.ensures.value) ∙ c.in-Some.ensures.steps)
    (c.in_ok-push_trimmed.ensures ∙ ap (λ bytes. c.args.out.now.items ++ trim_all bytes) c.as_bytes.ensures.value)
    c.in_ok-push_more.ensures
