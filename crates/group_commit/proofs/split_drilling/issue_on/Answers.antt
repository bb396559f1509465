use Rattle.group_commit.proofs.split_drilling.issue_on.Goals as goal

pub returns-in-Ok-clause-step : goal.returns-in-Ok-clause-step
returns-in-Ok-clause-step c = c.in-Ok.ensures.step
