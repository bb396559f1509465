use Rattle.std.proofs.Common.{ℕ, Option, sym, subst}
use Rattle.broker_core.specs.declared.batch.Batch.{Batch}
use Rattle.broker_core.specs.declared.issue_half.IssueHalf.{IssueHalf}
use Rattle.group_commit.specs.declared.split_script.SplitStep.TheVariants as step
use Rattle.group_commit.specs.declared.split_script.SplitAnswer.TheVariants as answer
use Rattle.group_commit.specs.declared.split_drilling.Halves.{Halves}
use Rattle.group_commit.specs.declared.split_drilling.Held.TheVariants as held
use Rattle.broker_core.specs.Lending.{Lends}
use Rattle.group_commit.specs.SplitDrill.{SplitLog, IsSplitStep}
use Rattle.group_commit.specs.SplitSteps.{Keeps}
use Rattle.group_commit.proofs.SplitDrilled.{lent_more, lent_none, lend_refused}
use Rattle.group_commit.proofs.split_drilling.lend.Goals as goal

pub returns-in-Ok-Some : goal.returns-in-Ok-Some
returns-in-Ok-Some c = record {
  step = λ s log keeps.
      let old = c.args.halves in
      let issue : IssueHalf = c.lend.new.self in
      let batch = c.in-Ok-Some.batch in
      let new : Halves = record old { issue = issue; held = held.Lent batch } in
      let lends = subst (λ (lent : Option Batch). Lends old.issue issue lent) c.in-Ok-Some.field-0-is c.in-Ok-Some.ensures.ok in
      subst (λ (n : ℕ). (next : SplitLog) × IsSplitStep s log step.Lend (answer.Number n) next × Keeps s next new) (sym c.last.ensures)
      (lent_more s log old issue keeps batch c.in-Ok-Some.ensures.same c.in-Ok-Some.ensures.could lends);
}

pub returns-in-Ok-None : goal.returns-in-Ok-None
returns-in-Ok-None c = record {
  step = λ s log keeps.
      let old = c.args.halves in
      let issue : IssueHalf = c.lend.new.self in
      let lends = subst (λ (lent : Option Batch). Lends old.issue issue lent) c.in-Ok-None.field-0-is c.in-Ok-None.ensures.ok in
      lent_none s log old issue keeps c.in-Ok-None.ensures.same c.in-Ok-None.ensures.could lends;
}

pub returns-in-Err : goal.returns-in-Err
returns-in-Err c = record {
  step = λ s log keeps.
      lend_refused s log c.args.halves c.lend.new.self keeps c.in-Err.why c.in-Err.ensures.same c.in-Err.ensures.kept c.in-Err.ensures.reason;
}
