use Rattle.std.proofs.Common.{sym, ◌∙◌}
use Rattle.std.proofs.Math.Logic.{∥∥₁_map}
use Rattle.long_poll.specs.Waiting.{IsTaken}
use Rattle.admin_port.specs.Collecting.{IsReplyTo, IsVerdictOn}
use Rattle.admin_port.proofs.Listed.{of_none, of_some, leads_on, leads_to}
use Rattle.admin_port.proofs.entry.Entry.poll.Goals as goal

pub invariant_of-self-in-Pending : goal.invariant_of-self-in-Pending
invariant_of-self-in-Pending g c = record {
  waits = ∥∥₁_map c.args.self.now.waits
      (leads_on (λ w. IsTaken w.slot) (IsReplyTo c.args.self.now.id) c.args.self.now.waiting c.in-Some.waiting c.poll.new.self
      (sym c.take.ensures.value ∙ c.in-Some.is) c.in-Pending.ensures.same);
  tells = c.args.self.now.tells;
}

pub invariant_of-self-in-Ready : goal.invariant_of-self-in-Ready
invariant_of-self-in-Ready g c = record {
  waits = ∣ of_none _ _ c.take.ensures.after ∣₁;
  tells = ∥∥₁_map c.args.self.now.waits (λ leads.
      of_some _ (IsVerdictOn c.args.self.now.id)
      (λ became is. (
        c.in-Ready.told,
        leads_to (λ w. IsTaken w.slot) (IsReplyTo c.args.self.now.id) c.args.self.now.waiting c.in-Some.waiting c.in-Ready.told
            (sym c.take.ensures.value ∙ c.in-Some.is) c.in-Ready.ensures.value leads,
        is,
      ))
      c.verdict_on.result c.verdict_on.ensures);
}
