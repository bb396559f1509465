use Rattle.std.proofs.Common.{◌≡◌, ◌<◌, length, Some, subst, ap, ◌∙◌, arith}
use Rattle.std.specs.Prelude.{slice_get}
use Rattle.hall_plans.proofs.Holding.{stands_at}
use Rattle.hall_plans.proofs.Showing.{ShownSoFar, one_more_shown}
use Rattle.hall_plans.proofs.environments.Environments.statuses.Goals as goal

pub loop-env-preserved : goal.loop-env-preserved
loop-env-preserved c =
    let within : c.loop-env.env-index < length c.deref-env-items.result.now = omega arith in
    let here : slice_get c.args.self.now c.loop-env.env-index ≡ Some c.env-item.result =
    stands_at c.args.self.now c.deref-env-items.result.now c.loop-env.env-index c.env-item.result (c.deref-env-items.ensures.value ∙ c.self.view_is) within c.env-item.is in
    rw c.in_ok-push.ensures.items
    (one_more_shown c.args.self.now c.loop-env.statuses.items c.loop-env.env-index c.env-item.result c.environment_status.result
    (rw c.self.view_is at c.self.invariant) here c.environment_status.ensures.number c.environment_status.ensures.shown c.loop-env.invariant)

pub returns-clause-numbers : goal.returns-clause-numbers
returns-clause-numbers c =
    let same : length c.deref-env-items.result.now ≡ length c.args.self.now = ap length (c.deref-env-items.ensures.value ∙ c.self.view_is) in
    let whole : c.loop-env.env-index ≡ length c.args.self.now = omega arith in
    (subst (ShownSoFar c.args.self.now c.loop-env.statuses.items) whole c.loop-env.invariant).numbers

pub returns-clause-shown : goal.returns-clause-shown
returns-clause-shown c = c.loop-env.invariant.each
