use Rattle.std.proofs.Common.{sym, subst}
use Rattle.std.specs.Prelude.{IfOk}
use Rattle.group_commit.specs.declared.script.Step.{Step}
use Rattle.group_commit.specs.DrillBroker.{Leads}
use Rattle.group_commit.proofs.drilling.act.Goals as goal

pub returns-in-Issue : goal.returns-in-Issue
returns-in-Issue c =
    record {
      step = subst (λ (step : Step). IfOk c.issue.result (λ answer. Leads c.args.broker.now step answer c.issue.new.broker)) (sym c.in-Issue.is) c.issue.ensures.step;
    }

pub returns-in-Commit : goal.returns-in-Commit
returns-in-Commit c =
    record {
      step = subst (λ (step : Step). Leads c.args.broker.now step c.commit.result c.commit.new.broker) (sym c.in-Commit.is) c.commit.ensures.step;
    }

pub returns-in-Switch : goal.returns-in-Switch
returns-in-Switch c =
    record {
      step = subst (λ (step : Step). Leads c.args.broker.now step c.switch.result c.switch.new.broker) (sym c.in-Switch.is) c.switch.ensures.step;
    }

pub returns-in-Resume : goal.returns-in-Resume
returns-in-Resume c =
    record {
      step = subst (λ (step : Step). Leads c.args.broker.now step c.resume.result c.resume.new.broker) (sym c.in-Resume.is) c.resume.ensures.step;
    }
