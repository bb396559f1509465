use Rattle.std.proofs.Common.{◌∙◌}
use Rattle.hall_plans.specs.Environments.{numbers}
use Rattle.hall_plans.proofs.Flat.{answered_by_shutdowns}
use Rattle.hall_plans.proofs.environments.Environments.call_all.Goals as goal

-- src/calling.rt:30:5
pub returns-clause-leads : goal.returns-clause-leads
returns-clause-leads c = λ wanted made hold. rw c.requires.0 (c.in_ok-ended.ensures.hold wanted made hold)

-- src/calling.rt:30:5
pub returns-clause-answers : goal.returns-clause-answers
returns-clause-answers c = λ wanted made hold.
    rw c.requires.0 (c.in_ok-ended.ensures.answers wanted made hold ∙ answered_by_shutdowns made (numbers c.args.self.now) c.args.now)
