use Rattle.std.proofs.Common.{rules}
use Rattle.std.proofs.Math.Logic.{∥∥₁_map}
use Rattle.receipts.proofs.Running.{runs_moved}
use Rattle.receipts.proofs.locked.Locked+L+Mark.join.Goals as goal

pub invariant_of-locked : goal.invariant_of-locked
invariant_of-locked g c = record {
  numbered = search rules;
  reached = search rules;
  followed = search rules;
  runs = ∥∥₁_map c.args.self.runs (runs_moved c.args.self.hall c.in-Err.failure.hall _ c.in-Err.ensures.same c.in-Err.ensures.same_parts);
}
