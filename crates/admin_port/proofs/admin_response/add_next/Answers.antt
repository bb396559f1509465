use Rattle.std.proofs.Common.{◌∙◌}
use Rattle.std.proofs.lemmas.Option.{IfSome_then}
use Rattle.admin_port.proofs.Added.{next_added}
use Rattle.admin_port.proofs.admin_response.add_next.Goals as goal

pub returns : goal.returns
returns c =
    IfSome_then c.add.result c.add.ensures.added (λ done is.
    next_added c.args.draft.now c.add.new.self c.args.next.now c.in-Some.id c.as_bytes.result.now c.in-Some.is (c.as_bytes.ensures.value ∙ c.in-Ok.ensures) is)
