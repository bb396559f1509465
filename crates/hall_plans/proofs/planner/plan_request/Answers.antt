use Rattle.std.proofs.Common.{◌≡◌, ◌∙◌, refl}
use Rattle.hall_plans.specs.Past.{moment}
use Rattle.hall_plans.proofs.Moments.{moment_is}
use Rattle.hall_plans.proofs.planner.plan_request.Goals as goal

pub returns-clause-effect : goal.returns-clause-effect
returns-clause-effect c past meets =
    let at : c.new.result.moment ≡ moment past c.args.now = c.new.ensures.moment ∙ moment_is c.args.table.now c.args.environments.now past c.args.now meets c.requires.moment in
    c.request_of.ensures.effect past (rw (c.new.ensures.table, c.new.ensures.environments) meets)
    ∙ rw (c.new.ensures.table, at, c.drawn_id.ensures) refl
