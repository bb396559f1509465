use Rattle.std.proofs.Common.{◌∙◌, sym, ap}
use Rattle.std.proofs.lemmas.Bool.{true≢false}
use Rattle.hall_plans.specs.Steps.{environment_of}
use Rattle.hall_plans.proofs.Holders.{holder_is, unplaced, not_there}
use Rattle.hall_plans.proofs.planner.Planner.holder.Goals as goal

pub returns-in_default-clause-holder : goal.returns-in_default-clause-holder
returns-in_default-clause-holder c past meets =
    let stands = c.standing.ensures.by_history past.history meets.kept.all.legal meets.table_is in
    sym (unplaced c.args.self.now.table.now.settings past meets.kept.all c.args.id.now (ap environment_of (sym stands) ∙ sym c.environment_of.ensures ∙ c.in_default.is))

pub returns-then-holds-clause-holder : goal.returns-then-holds-clause-holder
returns-then-holds-clause-holder c past meets =
    let holds = (c.holds.ensures.holds past meets).0 c.if-holds.true in
    sym (holder_is c.args.self.now.table.now.settings past meets.kept.all c.args.id.now c.in-Some.environment holds.1)

pub returns-else-holds-clause-holder : goal.returns-else-holds-clause-holder
returns-else-holds-clause-holder c past meets =
    let stands = c.standing.ensures.by_history past.history meets.kept.all.legal meets.table_is in
    sym (not_there c.args.self.now.table.now.settings past meets.kept.all c.args.id.now c.in-Some.environment
    (ap environment_of (sym stands) ∙ sym c.environment_of.ensures ∙ c.in-Some.is)
    (λ h. true≢false (sym ((c.holds.ensures.holds past meets).1 h) ∙ c.if-holds.false)))
