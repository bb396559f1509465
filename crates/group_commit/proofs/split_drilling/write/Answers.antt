use Rattle.std.proofs.Common.{refl, sym, subst}
use Rattle.group_commit.specs.declared.split_script.SplitStep.TheVariants as step
use Rattle.group_commit.specs.declared.split_script.SplitAnswer.{SplitAnswer}
use Rattle.group_commit.specs.declared.split_drilling.Halves.{Halves}
use Rattle.group_commit.specs.declared.split_drilling.Held.TheVariants as held
use Rattle.broker_core.specs.IssuerHalf.{lent_of}
use Rattle.group_commit.specs.SplitDrill.{SplitLog, IsSplitStep}
use Rattle.group_commit.specs.SplitSteps.{IsHeld, Keeps}
use Rattle.group_commit.proofs.SplitDrilled.{write_leads}
use Rattle.group_commit.proofs.split_drilling.write.Goals as goal

pub returns-in-Lent : goal.returns-in-Lent
returns-in-Lent c = record {
  step = λ s log keeps.
      let old = c.args.halves in
      let new : Halves = record { issue = old.issue; disk = c.write-outcome.new.self; held = held.Done c.write-outcome.result } in
      let wrote = c.write-outcome.ensures in
      subst (λ (answer : SplitAnswer). (next : SplitLog) × IsSplitStep s log step.Write answer next × Keeps s next new) (sym c.answer_to-answer.ensures)
      (write_leads s log old new c.in-Lent.batch c.write-outcome.result keeps (subst (IsHeld log (lent_of old.issue)) c.in-Lent.is keeps.held_is) refl refl wrote.settings wrote.longer wrote.stands
      wrote.sound wrote.front wrote.first wrote.last wrote.ok wrote.err wrote.switched);
}
