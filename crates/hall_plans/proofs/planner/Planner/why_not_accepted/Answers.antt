use Rattle.std.proofs.Common.{refl, ◌∙◌}
use Rattle.hall_plans.proofs.Records.{full_is}
use Rattle.hall_plans.proofs.planner.Planner.why_not_accepted.Goals as goal

pub returns-in-Full-clause-told : goal.returns-in-Full-clause-told
returns-in-Full-clause-told c past meets =
    full_is c.args.self.now.table.now c.args.self.now.environments.now past c.args.self.now.moment meets ∙ rw c.in-Full.is refl
