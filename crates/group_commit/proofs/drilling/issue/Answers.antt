use Rattle.std.proofs.Common.{subst, refl, ap}
use Rattle.checkpoint.specs.Live.{generation_of}
use Rattle.invoke_records.specs.declared.command.Command.{Command}
use Rattle.group_commit.specs.declared.script.Step.TheVariants as step
use Rattle.group_commit.specs.declared.script.StepAnswer.TheVariants as answer
use Rattle.group_commit.specs.DrillBroker.{log_of, LeadsOn}
use Rattle.group_commit.proofs.Drilled.{reason_is}
use Rattle.group_commit.proofs.drilling.issue.Goals as goal

pub returns-in-Err : goal.returns-in-Err
returns-in-Err c = record {
  step = λ history stands.
      let old = c.args.broker.now in
      let new = c.issue.new.self in
      subst (λ (command : Command). LeadsOn old history (step.Issue command) (answer.IssueRefused c.in-Err.why) new) c.in_ok-command.ensures
      (record {
        next = log_of old history;
        step_is = (reason_is old history stands c.in_ok-command.command c.in-Err.why (λ broken. let told = c.in-Err.ensures.broken broken in cc) c.in-Err.ensures.reason, refl);
        settings = c.in-Err.ensures.err.settings;
        durable = c.in-Err.ensures.err.durable;
        generation = ap generation_of c.in-Err.ensures.err.opened;
        broken = c.in-Err.ensures.err.broken;
        stands = c.in-Err.ensures.stands_refused history stands;
      });
}
