use Rattle.std.proofs.Common.{◌≡◌, true, false, sym, ap, ◌∙◌, arith, ◌<◌, ◌≤◌, length, Some}
use Rattle.std.specs.Prelude.{slice_get}
use Rattle.env_phase.specs.State.{ForEachList}
use Rattle.env_phase.specs.Environment.{is_ready}
use Rattle.hall_plans.proofs.Holding.{stands_at, first_does, first_does_later, none_does}
use Rattle.hall_plans.proofs.environments.Environments.ready.Goals as goal

pub returns-then-ready-clause-first : goal.returns-then-ready-clause-first
returns-then-ready-clause-first c =
    let within : c.loop-env.env-index < length c.deref-env-items.result.now = omega arith in
    let here : slice_get c.args.self.now c.loop-env.env-index ≡ Some c.env-item.result =
    stands_at c.args.self.now c.deref-env-items.result.now c.loop-env.env-index c.env-item.result (c.deref-env-items.ensures.value ∙ c.self.view_is) within c.env-item.is in
    let asked : ForEachList c.env-item.result (λ calls. true ≡ is_ready c.env-item.result.wanted calls) =
    λ calls stands. sym c.if-ready.true ∙ c.ready.ensures.by_calls calls stands in
    λ wanted made hold. ap (λ n. Some n) c.number.ensures
    ∙ first_does c.args.self.now c.loop-env.env-index c.env-item.result is_ready here c.loop-env.invariant asked wanted made hold

pub loop-env-preserved : goal.loop-env-preserved
loop-env-preserved c =
    let within : c.loop-env.env-index < length c.deref-env-items.result.now = omega arith in
    let here : slice_get c.args.self.now c.loop-env.env-index ≡ Some c.env-item.result =
    stands_at c.args.self.now c.deref-env-items.result.now c.loop-env.env-index c.env-item.result (c.deref-env-items.ensures.value ∙ c.self.view_is) within c.env-item.is in
    let asked : ForEachList c.env-item.result (λ calls. false ≡ is_ready c.env-item.result.wanted calls) =
    λ calls stands. sym c.if-ready.false ∙ c.ready.ensures.by_calls calls stands in
    first_does_later c.args.self.now c.loop-env.env-index c.env-item.result is_ready here c.loop-env.invariant asked

pub returns-clause-first : goal.returns-clause-first
returns-clause-first c =
    let same : length c.deref-env-items.result.now ≡ length c.args.self.now = ap length (c.deref-env-items.ensures.value ∙ c.self.view_is) in
    let all : length c.args.self.now ≤ c.loop-env.env-index = omega arith in
    none_does c.args.self.now c.loop-env.env-index is_ready all c.loop-env.invariant
