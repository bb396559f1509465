use Rattle.std.proofs.lemmas.Option.{IfSome_then}
use Rattle.http_front.proofs.replying.TellingIntoResponse.into_response.Goals as goal

pub returns : goal.returns
returns g c = record {
  told = IfSome_then c.response_of.result c.response_of.ensures (λ response is.
      (c.with_id.result, rw (c.into_reply.ensures, c.split-released.ensures.answer) at c.with_id.ensures.told, is));
}
