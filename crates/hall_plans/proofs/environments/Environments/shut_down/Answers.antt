use Rattle.std.proofs.Common.{◌≡◌, ◌<◌, length, Some, subst, ap, ◌∙◌, arith}
use Rattle.std.specs.Prelude.{slice_get}
use Rattle.hall_plans.proofs.Holding.{EndedSoFar, stands_at, one_more_ended, all_ended}
use Rattle.hall_plans.proofs.environments.Environments.shut_down.Goals as goal

pub loop-env-preserved : goal.loop-env-preserved
loop-env-preserved c =
    let within : c.loop-env.env-index < length c.deref-env-items.result.now = omega arith in
    let here : slice_get c.args.self.now c.loop-env.env-index ≡ Some c.env-item.result =
    stands_at c.args.self.now c.deref-env-items.result.now c.loop-env.env-index c.env-item.result (c.deref-env-items.ensures.value ∙ c.self.view_is) within c.env-item.is in
    rw (c.in_ok-push.ensures.items, c.in_ok-extend_from_slice.ensures.items, c.deref.ensures.value)
    (one_more_ended c.args.self.now c.args.now c.loop-env.list.items c.loop-env.answers.items c.loop-env.env-index c.env-item.result c.in_ok-ended.ended c.in_ok-ended.told.items
    (rw c.self.view_is at c.self.invariant) here c.in_ok-ended.ensures c.loop-env.invariant)

pub returns-clause-hold : goal.returns-clause-hold
returns-clause-hold c =
    let same : length c.deref-env-items.result.now ≡ length c.args.self.now = ap length (c.deref-env-items.ensures.value ∙ c.self.view_is) in
    let whole : c.loop-env.env-index ≡ length c.args.self.now = omega arith in
    all_ended c.args.self.now c.args.now c.loop-env.list.items c.loop-env.answers.items
    (subst (EndedSoFar c.args.self.now c.args.now c.loop-env.list.items c.loop-env.answers.items) whole c.loop-env.invariant)

pub returns-clause-answers : goal.returns-clause-answers
returns-clause-answers c =
    let same : length c.deref-env-items.result.now ≡ length c.args.self.now = ap length (c.deref-env-items.ensures.value ∙ c.self.view_is) in
    let whole : c.loop-env.env-index ≡ length c.args.self.now = omega arith in
    (subst (EndedSoFar c.args.self.now c.args.now c.loop-env.list.items c.loop-env.answers.items) whole c.loop-env.invariant).answered
