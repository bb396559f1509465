use Rattle.std.proofs.Common.{◌≡◌, true, false, sym, ap, ◌∙◌, arith, ◌<◌, ◌≤◌, length, Some}
use Rattle.std.specs.Prelude.{slice_get}
use Rattle.env_phase.specs.State.{ForEachList}
use Rattle.env_phase.specs.Environment.{runs}
use Rattle.hall_plans.proofs.Holding.{stands_at, first_does, first_does_later, none_does}
use Rattle.hall_plans.proofs.environments.Environments.holder.Goals as goal

pub returns-then-runs_in-clause-first : goal.returns-then-runs_in-clause-first
returns-then-runs_in-clause-first c =
    let within : c.loop-env.env-index < length c.deref-env-items.result.now = omega arith in
    let here : slice_get c.args.self.now c.loop-env.env-index ≡ Some c.env-item.result =
    stands_at c.args.self.now c.deref-env-items.result.now c.loop-env.env-index c.env-item.result (c.deref-env-items.ensures.value ∙ c.self.view_is) within c.env-item.is in
    let asked : ForEachList c.env-item.result (λ calls. true ≡ runs calls c.args.id.now) =
    λ calls stands. sym c.if-runs_in.true ∙ c.runs_in.ensures calls stands in
    λ wanted made hold. ap (λ n. Some n) c.number.ensures
    ∙ first_does c.args.self.now c.loop-env.env-index c.env-item.result (λ wanted calls. runs calls c.args.id.now) here c.loop-env.invariant asked wanted made hold

pub loop-env-preserved : goal.loop-env-preserved
loop-env-preserved c =
    let within : c.loop-env.env-index < length c.deref-env-items.result.now = omega arith in
    let here : slice_get c.args.self.now c.loop-env.env-index ≡ Some c.env-item.result =
    stands_at c.args.self.now c.deref-env-items.result.now c.loop-env.env-index c.env-item.result (c.deref-env-items.ensures.value ∙ c.self.view_is) within c.env-item.is in
    let asked : ForEachList c.env-item.result (λ calls. false ≡ runs calls c.args.id.now) =
    λ calls stands. sym c.if-runs_in.false ∙ c.runs_in.ensures calls stands in
    first_does_later c.args.self.now c.loop-env.env-index c.env-item.result (λ wanted calls. runs calls c.args.id.now) here c.loop-env.invariant asked

pub returns-clause-first : goal.returns-clause-first
returns-clause-first c =
    let same : length c.deref-env-items.result.now ≡ length c.args.self.now = ap length (c.deref-env-items.ensures.value ∙ c.self.view_is) in
    let all : length c.args.self.now ≤ c.loop-env.env-index = omega arith in
    none_does c.args.self.now c.loop-env.env-index (λ wanted calls. runs calls c.args.id.now) all c.loop-env.invariant
