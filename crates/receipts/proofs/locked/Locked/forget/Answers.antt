use Rattle.std.proofs.Common.{rules, ap}
use Rattle.std.proofs.Math.Logic.{∥∥₁_map}
use Rattle.broker_core.specs.declared.issue_half.IssueHalf.{IssueHalf}
use Rattle.broker_core.specs.IssuerHalf.{half_view}
use Rattle.hall_core.specs.Hall.{view_of}
use Rattle.receipts.proofs.Running.{runs_by_forget}
use Rattle.receipts.proofs.locked.Locked.forget.Goals as goal

pub invariant_of-self : goal.invariant_of-self
invariant_of-self g c = record {
  numbered = search rules;
  reached = search rules;
  followed = search rules;
  runs = ∥∥₁_map c.args.self.now.runs
      (runs_by_forget (view_of half_view c.args.self.now.hall) (view_of half_view c.forget.new.self) _ c.args.slot
      (ap (λ (i : IssueHalf). (half_view i).settings) c.forget.ensures.issuer) c.forget.ensures.done);
}
