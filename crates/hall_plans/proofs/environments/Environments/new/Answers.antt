use Rattle.std.proofs.Common.{[], ◌∷◌, ◌+◌, ap, ◌∙◌, length-append}
use Rattle.hall_plans.proofs.Holding.{one_more_holds}
use Rattle.hall_plans.proofs.environments.Environments.new.Goals as goal

pub loop-place-preserved : goal.loop-place-preserved
loop-place-preserved c =
    let before = c.loop-place.invariant in
    rw c.in_ok-push.ensures.items
    (record {
      long = length-append c.loop-place.list.items (c.waiting_for.result ∷ []) ∙ ap (λ n. n + 1) before.long;
      hold = one_more_holds c.args.extensions c.loop-place.list.items c.loop-place.place c.waiting_for.result before.long before.hold c.waiting_for.ensures.number c.waiting_for.ensures.wanted c.waiting_for.ensures.stands;
    })
