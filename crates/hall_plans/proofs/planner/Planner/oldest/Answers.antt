use Rattle.std.proofs.Common.{None, Some, sym, ◌∙◌, ap}
use Rattle.hall_plans.specs.Effects.{says_record}
use Rattle.hall_plans.specs.Plans.{PlanView}
use Rattle.hall_plans.proofs.Oldest.{ending_is}
use Rattle.hall_plans.proofs.planner.Planner.oldest.Goals as goal

pub returns-in_default-clause-effect : goal.returns-in_default-clause-effect
returns-in_default-clause-effect c past meets =
    let e = ending_is c.args.self.now.table.now.settings past.history c.args.side meets.kept.all.legal None (c.in_default.ensures.by_history past.history meets.table_is) in
    ap (λ (p : PlanView). p.effect) c.says.ensures ∙ sym (ap says_record e)

pub returns-in-Some-ended-clause-effect : goal.returns-in-Some-ended-clause-effect
returns-in-Some-ended-clause-effect c past meets =
    let e = ending_is c.args.self.now.table.now.settings past.history c.args.side meets.kept.all.legal (Some c.in-Some.id) (c.in-Some.ensures.by_history past.history meets.table_is) in
    let a = c.in-Some-ended.ensures.told past meets in
    ap (λ (p : PlanView). p.effect) c.says-in-Some-ended.ensures ∙ ap says_record a ∙ sym (ap says_record e)
