use Rattle.std.proofs.Common.{rules, ◌≡◌}
use Rattle.hall_plans.specs.Plans.{ForEachPast, calls_made}
use Rattle.hall_plans.specs.Changes.{answered_to}
use Rattle.hall_plans.proofs.preparing.prepare.Goals as goal

pub returns-clause-ok : goal.returns-clause-ok
returns-clause-ok c =
    let polls : ForEachPast c.args.table.now c.args.environments.now (λ past. c.in_ok-changes.answered.items ≡ answered_to past.made (calls_made c.plan.inside.made)) =
    λ past meets. c.in_ok-changes.ensures.answers past.wanted past.made meets.hold in
    search (rules, polls)
