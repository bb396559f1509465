use Rattle.std.proofs.Common.{◌≡◌, ℕ, List, Vec, Global, inl, inr, refl, sym, subst}
use Rattle.group_commit.specs.declared.script.Step.{Step}
use Rattle.group_commit.specs.declared.script.Step.TheVariants as step
use Rattle.group_commit.specs.Drill.{IsStop}
use Rattle.group_commit.proofs.Results.{if_ok, any_err}
use Rattle.group_commit.proofs.drilling.run_step.Goals as goal

-- what is no stop by its form is none
not_stop : (s : Step) → ((choice : Vec (ℕ × List ℕ) Global) → s ≡ step.Stop choice → ⊥) → IsStop s → ⊥
not_stop (step.Stop choice) never is = never choice refl
not_stop (step.Issue command) never is = is
not_stop step.Commit never is = is
not_stop step.Switch never is = is
not_stop (step.Resume now) never is = is

pub act-requires : goal.act-requires
act-requires c = not_stop c.args.step.now c.in_default.not-Stop

pub returns-in-Stop-clause-step : goal.returns-in-Stop-clause-step
returns-in-Stop-clause-step c =
    if_ok _ _ c.stop_on.result (λ r leads. leads c.args.step.now (subst IsStop (sym c.in-Stop.is) tt)) c.stop_on.ensures.step

pub returns-in-Stop-clause-refused : goal.returns-in-Stop-clause-refused
returns-in-Stop-clause-refused c = c.stop_on.ensures.refused

pub returns-in-Stop-clause-needs : goal.returns-in-Stop-clause-needs
returns-in-Stop-clause-needs c = any_err _ c.stop_on.result (λ why. inl (subst IsStop (sym c.in-Stop.is) tt))

pub returns-in-Ok-clause-step : goal.returns-in-Ok-clause-step
returns-in-Ok-clause-step c = c.in-Ok.ensures.step

pub returns-in-Err-clause-refused : goal.returns-in-Err-clause-refused
returns-in-Err-clause-refused c history stands = inr refl

pub returns-in-Err-clause-needs : goal.returns-in-Err-clause-needs
returns-in-Err-clause-needs c = inr refl
