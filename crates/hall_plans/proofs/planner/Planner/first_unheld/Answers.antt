use Rattle.std.proofs.Common.{◌∙◌, ap, not}
use Rattle.hall_plans.proofs.FirstUnheld.{held_at_first, found, goes_on, ends}
use Rattle.hall_plans.proofs.planner.Planner.first_unheld.Goals as goal

pub events-init : goal.events-init
events-init c past meets = held_at_first c.args.self.now.table.now.settings past

pub returns-then-is_none : goal.returns-then-is_none
returns-then-is_none c past meets =
    let chosen = c.in-Some.ensures.by_history past.history meets.table_is in
    found c.args.self.now.table.now.settings past c.events.after (c.events.invariant past meets) c.in-Some.next c.holder.result chosen (c.holder.ensures.holder past meets)
    (c.is_none.ensures ∙ ap not c.if-is_none.true)

pub events-preserved : goal.events-preserved
events-preserved c past meets =
    let chosen = c.in-Some.ensures.by_history past.history meets.table_is in
    goes_on c.args.self.now.table.now.settings past c.events.after (c.events.invariant past meets) c.in-Some.next c.holder.result chosen (c.holder.ensures.holder past meets)
    (c.is_none.ensures ∙ ap not c.if-is_none.false)

pub returns : goal.returns
returns c past meets =
    ends c.args.self.now.table.now.settings past c.events.after (c.events.invariant past meets) (c.in_default.ensures.by_history past.history meets.table_is)
