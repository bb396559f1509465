use Rattle.std.proofs.Common.{ap, ◌∙◌}
use Rattle.std.proofs.Math.Logic.{∥∥₁_map}
use Rattle.hall_core.specs.declared.released.Released.{Released}
use Rattle.admin_port.proofs.asked.Asked.wait.Goals as goal

pub invariant_of-result : goal.invariant_of-result
invariant_of-result g c = record {
  waits = ∥∥₁_map c.args.self.waits (λ gives released taken. gives released (c.in-Pending.ensures.same released taken));
}

pub invariant_of-result-in-Ready : goal.invariant_of-result-in-Ready
invariant_of-result-in-Ready g c = record {
  tells = ∥∥₁_map c.args.self.waits (λ gives. (
    c.in-Ready.told,
    gives c.in-Ready.told c.in-Ready.ensures.value,
    c.with.ensures.answer ∙ c.into_reply.ensures ∙ ap (λ (r : Released). r.reply) c.split-released.ensures.answer,
  ));
}
