use Rattle.std.proofs.Common.{◌≡◌, ◌∙◌, sym, refl, false}
use Rattle.hall_plans.specs.Past.{moment, is_stopping}
use Rattle.hall_plans.proofs.Moments.{moment_is}
use Rattle.hall_plans.proofs.planning_ticks.plan_tick.Goals as goal

pub returns-clause-effect : goal.returns-clause-effect
returns-clause-effect c past meets stopping =
    let at : c.new.result.moment ≡ moment past c.args.now = c.new.ensures.moment ∙ moment_is c.args.table.now c.args.environments.now past c.args.now meets c.requires in
    let goes_on : is_stopping past ≡ false = sym stopping ∙ c.if-is_stopping.false in
    c.tick.ensures.effect past (rw (c.new.ensures.table, c.new.ensures.environments) meets) ∙ rw (c.new.ensures.table, at, goes_on) refl
