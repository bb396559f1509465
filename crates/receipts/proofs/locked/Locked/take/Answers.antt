use Rattle.std.proofs.Common.{rules, ap}
use Rattle.std.proofs.Math.Logic.{∥∥₁_map}
use Rattle.broker_core.specs.declared.issue_half.IssueHalf.{IssueHalf}
use Rattle.broker_core.specs.IssuerHalf.{half_view}
use Rattle.hall_core.specs.Hall.{view_of}
use Rattle.receipts.proofs.Running.{runs_taken}
use Rattle.receipts.proofs.locked.Locked.take.Goals as goal

pub invariant_of-self : goal.invariant_of-self
invariant_of-self g c = record {
  numbered = search rules;
  reached = search rules;
  followed = search rules;
  runs = ∥∥₁_map c.args.self.now.runs
      (runs_taken (view_of half_view c.args.self.now.hall) (view_of half_view c.take.new.self) _ c.args.slot c.take.result
      (ap (λ (i : IssueHalf). (half_view i).settings) c.take.ensures.issuer) c.take.ensures.some c.take.ensures.none);
}
