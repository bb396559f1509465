use Rattle.std.proofs.Common.{sym}
use Rattle.std.proofs.lemmas.Option.{IfSome_then}
use Rattle.http_front.proofs.replying.add_header.Goals as goal

pub returns : goal.returns
returns c = IfSome_then c.add.result c.add.ensures.added (λ done is. ((c.in-Some.name.now, c.in-Some.value.now), sym c.in-Some.ensures, is))
