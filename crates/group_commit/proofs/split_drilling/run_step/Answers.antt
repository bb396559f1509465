use Rattle.std.proofs.Common.{inl, inr, sym, subst}
use Rattle.std.specs.Prelude.{IfOk}
use Rattle.group_commit.specs.declared.split_script.SplitStep.{SplitStep}
use Rattle.group_commit.specs.SplitDrill.{IsStop}
use Rattle.group_commit.specs.SplitSteps.{Leads}
use Rattle.group_commit.proofs.Results.{if_ok, if_err, any_err}
use Rattle.group_commit.proofs.split_drilling.run_step.Goals as goal

pub returns-in-Issue-clause-step : goal.returns-in-Issue-clause-step
returns-in-Issue-clause-step c =
    subst (λ (step : SplitStep). IfOk c.issue_on.result (λ r. Leads c.args.halves step r.1 r.0)) (sym c.in-Issue.is) c.issue_on.ensures.step

pub returns-in-Issue-clause-refused : goal.returns-in-Issue-clause-refused
returns-in-Issue-clause-refused c s log keeps = if_err _ _ c.issue_on.result (λ why is. inr is) c.issue_on.ensures.refused

pub returns-in-Issue-clause-needs : goal.returns-in-Issue-clause-needs
returns-in-Issue-clause-needs c = if_err _ _ c.issue_on.result (λ why is. inr is) c.issue_on.ensures.refused

pub returns-in-Lend-clause-step : goal.returns-in-Lend-clause-step
returns-in-Lend-clause-step c =
    subst (λ (step : SplitStep). Leads c.args.halves step c.lend.result.1 c.lend.result.0) (sym c.in-Lend.is) c.lend.ensures.step

pub returns-in-Write-clause-step : goal.returns-in-Write-clause-step
returns-in-Write-clause-step c =
    subst (λ (step : SplitStep). Leads c.args.halves step c.write.result.1 c.write.result.0) (sym c.in-Write.is) c.write.ensures.step

pub returns-in-Settle-clause-step : goal.returns-in-Settle-clause-step
returns-in-Settle-clause-step c =
    subst (λ (step : SplitStep). Leads c.args.halves step c.settle.result.1 c.settle.result.0) (sym c.in-Settle.is) c.settle.ensures.step

pub returns-in-Advance-clause-step : goal.returns-in-Advance-clause-step
returns-in-Advance-clause-step c =
    subst (λ (step : SplitStep). Leads c.args.halves step c.advance.result.1 c.advance.result.0) (sym c.in-Advance.is) c.advance.ensures.step

pub returns-in-Stop-clause-step : goal.returns-in-Stop-clause-step
returns-in-Stop-clause-step c =
    if_ok _ _ c.stop_on.result (λ r leads. leads c.args.step.now (subst IsStop (sym c.in-Stop.is) tt)) c.stop_on.ensures.step

pub returns-in-Stop-clause-refused : goal.returns-in-Stop-clause-refused
returns-in-Stop-clause-refused c = c.stop_on.ensures.refused

pub returns-in-Stop-clause-needs : goal.returns-in-Stop-clause-needs
returns-in-Stop-clause-needs c = any_err _ c.stop_on.result (λ why. inl (subst IsStop (sym c.in-Stop.is) tt))
