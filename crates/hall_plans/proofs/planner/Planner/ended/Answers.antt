use Rattle.hall_plans.proofs.Ends.{never_later}
use Rattle.hall_plans.proofs.planner.Planner.ended.Goals as goal

pub returns-else-ended-le-GREATEST_MOMENT-clause-told :
    goal.returns-else-ended-le-GREATEST_MOMENT-clause-told
returns-else-ended-le-GREATEST_MOMENT-clause-told c past meets =
    absurd (never_later c.args.self.now.table.now.settings past.history c.args.id.now c.in-Some.ended meets.good meets.kept.all.legal
    (c.in-Some.ensures.by_history past.history meets.kept.all.legal meets.table_is) c.if-ended-le-GREATEST_MOMENT.false)
