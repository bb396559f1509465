use Rattle.std.proofs.Common.{◌∙◌, ap, refl}
use Rattle.hall_plans.specs.laws.Moving.{first_moving-is, first_moving-none}
use Rattle.hall_plans.specs.Plans.{PlanView}
use Rattle.hall_plans.proofs.planner.Planner.next_move.Goals as goal

pub returns-in-Some-clause-effect : goal.returns-in-Some-clause-effect
returns-in-Some-clause-effect c past meets =
    let next = c.in-Some.ensures.by_history past.history meets.table_is in
    c.move_event.ensures.effect past meets
    ∙ rw (first_moving-is c.args.self.now.table.now.settings past.history c.args.self.now.moment _ next.0 c.in-Some.next.kind next.3, next.3.moves, next.1) refl

pub returns-in-None-clause-effect : goal.returns-in-None-clause-effect
returns-in-None-clause-effect c past meets =
    let all = c.in-None.ensures.by_history past.history meets.table_is in
    ap (λ (p : PlanView). p.effect) c.nothing.ensures
    ∙ rw (first_moving-none c.args.self.now.table.now.settings past.history c.args.self.now.moment _ all) refl
