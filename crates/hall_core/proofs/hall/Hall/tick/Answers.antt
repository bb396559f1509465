use Rattle.std.proofs.Common.{rules, ◌≡◌, true, false, refl, sym, ap, subst, ◌∙◌, inl, inr, None, Some}
use Rattle.std.specs.Prelude.{is_some}
use Rattle.hall_plans.specs.Plans.{PlansTick}
use Rattle.hall_plans.specs.Prepared.{IsPreparedFor}
use Rattle.hall_core.specs.Issuing.{HasPlaceFor}
use Rattle.hall_plans.specs.Past.{tick}
use Rattle.hall_plans.specs.Effects.{Effect}
use Rattle.hall_core.specs.Hall.{view_of, settings_in, refusal_of_moving}
use Rattle.hall_core.proofs.Arriving.{answered_is, called_but_for_memory, issued_but_for_memory}
use Rattle.hall_core.proofs.Kept.{nothing_there}
use Rattle.hall_core.proofs.Ticking.{ticked, idle, idle_answers_none, issues_none, tick_refused_by, tick_passes, moving_finds_place, tick_effect_is, tick_unrefused}
use Rattle.hall_core.proofs.Reasons.{moving_reason, uncalled_reason, wanting_reason, tick_would}
use Rattle.hall_core.proofs.hall.Hall.tick.Goals as goal

pub returns-in-Some-clause-refused : goal.returns-in-Some-clause-refused
returns-in-Some-clause-refused g c = λ past stands.
    let old = view_of g.I.Issuer.view c.args.self.now in
    let laws = g.met.I.Issuer.laws c.args.self.now.issuer in
    let effect = c.plan_tick-plan.result.effect in
    let plans = subst (λ t. PlansTick t c.args.self.now.environments c.args.self.now.stops c.args.now effect) c.table.ensures c.plan_tick-plan.ensures.effect in
    let why : refusal_of_moving old (is_some effect.command) ≡ Some c.in-Some.why = search rules in
    inl (tick_refused_by old past c.args.now effect laws stands plans ∙ why)

pub returns-in-Ok-do_moving-clause-ok : goal.returns-in-Ok-do_moving-clause-ok
returns-in-Ok-do_moving-clause-ok g c = λ past stands.
    let old = view_of g.I.Issuer.view c.args.self.now in
    let new = view_of g.I.Issuer.view c.do_moving.new.self in
    let effect = c.plan_tick-plan.result.effect in
    let plans = subst (λ t. PlansTick t c.args.self.now.environments c.args.self.now.stops c.args.now effect) c.table.ensures c.plan_tick-plan.ensures.effect in
    let prepared = subst (λ t. IsPreparedFor c.args.self.now.dialect t c.args.self.now.environments effect c.in-Ok.prepared) c.table-2.ensures c.in-Ok.ensures.ok in
    let none : refusal_of_moving old (is_some effect.command) ≡ None = search rules in
    ticked old new past c.args.now effect c.in-Ok.prepared c.in-Ok-do_moving.issued
    (g.met.I.Issuer.laws c.args.self.now.issuer) (g.met.I.Issuer.laws c.do_moving.new.self.issuer) stands c.requires none plans prepared c.in-Ok-do_moving.ensures.dialect
    c.in-Ok-do_moving.ensures.issuer c.in-Ok-do_moving.ensures.issued c.in-Ok-do_moving.ensures.count c.in-Ok-do_moving.ensures.environments c.in-Ok-do_moving.ensures.wanted
    c.in-Ok-do_moving.ensures.slots c.in-Ok-do_moving.ensures.stops

pub returns-in-Err-clause-refused : goal.returns-in-Err-clause-refused
returns-in-Err-clause-refused g c = λ past stands.
    let old = view_of g.I.Issuer.view c.args.self.now in
    let laws = g.met.I.Issuer.laws c.args.self.now.issuer in
    let effect = c.plan_tick-plan.result.effect in
    let plans = subst (λ t. PlansTick t c.args.self.now.environments c.args.self.now.stops c.args.now effect) c.table.ensures c.plan_tick-plan.ensures.effect in
    let none : refusal_of_moving old (is_some effect.command) ≡ None = search rules in
    let is = plans past stands.environments stands.stopping ∙ tick_effect_is (settings_in old) past c.args.now in
    let made = tick_unrefused old past c.args.now effect laws stands c.requires none is in (
    inr (
      tick_refused_by old past c.args.now effect laws stands plans ∙ none,
      called_but_for_memory old past (tick c.args.now) effect c.in-Err.why stands is made c.in-Err.ensures.refused,
    )
    )

pub returns-in-Err-do_moving-clause-refused : goal.returns-in-Err-do_moving-clause-refused
returns-in-Err-do_moving-clause-refused g c = λ past stands.
    let old = view_of g.I.Issuer.view c.args.self.now in
    let laws = g.met.I.Issuer.laws c.args.self.now.issuer in
    let effect = c.plan_tick-plan.result.effect in
    let plans = subst (λ t. PlansTick t c.args.self.now.environments c.args.self.now.stops c.args.now effect) c.table.ensures c.plan_tick-plan.ensures.effect in
    let prepared = subst (λ t. IsPreparedFor c.args.self.now.dialect t c.args.self.now.environments effect c.in-Ok.prepared) c.table-2.ensures c.in-Ok.ensures.ok in
    let none : refusal_of_moving old (is_some effect.command) ≡ None = search rules in
    let place : HasPlaceFor (g.I.Issuer.view c.args.self.now.issuer) c.in-Ok.prepared.command = rw prepared.command (moving_finds_place old effect.command laws none) in
    let is = plans past stands.environments stands.stopping ∙ tick_effect_is (settings_in old) past c.args.now in
    let made = tick_unrefused old past c.args.now effect laws stands c.requires none is in (
    inr (
      tick_refused_by old past c.args.now effect laws stands plans ∙ none,
      issued_but_for_memory old past (tick c.args.now) c.in-Ok.prepared.command c.in-Err-do_moving.why stands made
          (prepared.command ∙ ap (λ (e : Effect). e.command) is) (c.in-Err-do_moving.ensures.refused place),
    )
    )

pub returns-in-Some-clause-reason : goal.returns-in-Some-clause-reason
returns-in-Some-clause-reason g c =
    let old = view_of g.I.Issuer.view c.args.self.now in
    let effect = c.plan_tick-plan.result.effect in
    let plans = subst (λ t. PlansTick t c.args.self.now.environments c.args.self.now.stops c.args.now effect) c.table.ensures c.plan_tick-plan.ensures.effect in
    let why : refusal_of_moving old (is_some effect.command) ≡ Some c.in-Some.why = search rules in
    moving_reason old (is_some effect.command) c.in-Some.why c.args.now (tick_would old c.args.now effect plans c.plan_tick-plan.ensures.moving) why

pub returns-in-Err-clause-reason : goal.returns-in-Err-clause-reason
returns-in-Err-clause-reason g c =
    let old = view_of g.I.Issuer.view c.args.self.now in
    let laws = g.met.I.Issuer.laws c.args.self.now.issuer in
    let effect = c.plan_tick-plan.result.effect in
    let plans = subst (λ t. PlansTick t c.args.self.now.environments c.args.self.now.stops c.args.now effect) c.table.ensures c.plan_tick-plan.ensures.effect in
    let none : refusal_of_moving old (is_some effect.command) ≡ None = search rules in
    let some : is_some effect.command ≡ true = search rules in
    uncalled_reason old (tick c.args.now) (tick_would old c.args.now effect plans c.plan_tick-plan.ensures.moving some)
    c.args.self.now.environments effect.made c.in-Err.why
    (λ past stands.
    let is = plans past stands.environments stands.stopping ∙ tick_effect_is (settings_in old) past c.args.now in
    let made = tick_unrefused old past c.args.now effect laws stands c.requires none is in
    called_but_for_memory old past (tick c.args.now) effect c.in-Err.why stands is made c.in-Err.ensures.refused) c.in-Err.ensures.refused

pub returns-in-Err-do_moving-clause-reason : goal.returns-in-Err-do_moving-clause-reason
returns-in-Err-do_moving-clause-reason g c =
    let old = view_of g.I.Issuer.view c.args.self.now in
    let laws = g.met.I.Issuer.laws c.args.self.now.issuer in
    let effect = c.plan_tick-plan.result.effect in
    let plans = subst (λ t. PlansTick t c.args.self.now.environments c.args.self.now.stops c.args.now effect) c.table.ensures c.plan_tick-plan.ensures.effect in
    let prepared = subst (λ t. IsPreparedFor c.args.self.now.dialect t c.args.self.now.environments effect c.in-Ok.prepared) c.table-2.ensures c.in-Ok.ensures.ok in
    let none : refusal_of_moving old (is_some effect.command) ≡ None = search rules in
    let some : is_some effect.command ≡ true = search rules in
    let place : HasPlaceFor (g.I.Issuer.view c.args.self.now.issuer) c.in-Ok.prepared.command = rw prepared.command (moving_finds_place old effect.command laws none) in
    wanting_reason old (tick c.args.now) (tick_would old c.args.now effect plans c.plan_tick-plan.ensures.moving some)
    (g.I.Issuer.view c.args.self.now.issuer) c.in-Ok.prepared.command c.in-Err-do_moving.why
    (λ past stands.
    let is = plans past stands.environments stands.stopping ∙ tick_effect_is (settings_in old) past c.args.now in
    let made = tick_unrefused old past c.args.now effect laws stands c.requires none is in
    issued_but_for_memory old past (tick c.args.now) c.in-Ok.prepared.command c.in-Err-do_moving.why stands made
    (prepared.command ∙ ap (λ (e : Effect). e.command) is) (c.in-Err-do_moving.ensures.refused place)) (c.in-Err-do_moving.ensures.refused place)

pub returns-in-Ok-do_moving-clause-passes : goal.returns-in-Ok-do_moving-clause-passes
returns-in-Ok-do_moving-clause-passes g c =
    let old = view_of g.I.Issuer.view c.args.self.now in
    let effect = c.plan_tick-plan.result.effect in
    let plans = subst (λ t. PlansTick t c.args.self.now.environments c.args.self.now.stops c.args.now effect) c.table.ensures c.plan_tick-plan.ensures.effect in
    let none : refusal_of_moving old (is_some effect.command) ≡ None = search rules in
    tick_passes old c.args.now effect c.in-Ok.prepared.command c.in-Ok-do_moving.issued
    (g.met.I.Issuer.laws c.args.self.now.issuer) plans none c.in-Ok.ensures.ok.command c.in-Ok-do_moving.ensures.issued

pub returns-then-not-has_command-clause-ok : goal.returns-then-not-has_command-clause-ok
returns-then-not-has_command-clause-ok g c = λ past stands.
    let old = view_of g.I.Issuer.view c.args.self.now in
    let effect = c.plan_tick-plan.result.effect in
    let plans = subst (λ t. PlansTick t c.args.self.now.environments c.args.self.now.stops c.args.now effect) c.table.ensures c.plan_tick-plan.ensures.effect in
    let none : refusal_of_moving old (is_some effect.command) ≡ None = search rules in
    let quiet : is_some effect.command ≡ false = search rules in
    idle old past c.args.now effect (g.met.I.Issuer.laws c.args.self.now.issuer) stands c.requires none plans (nothing_there effect.command quiet)

pub returns-then-not-has_command-clause-issues : goal.returns-then-not-has_command-clause-issues
returns-then-not-has_command-clause-issues g c = issues_none (g.I.Issuer.view c.args.self.now.issuer)

pub returns-then-not-has_command-clause-passes : goal.returns-then-not-has_command-clause-passes
returns-then-not-has_command-clause-passes g c =
    let old = view_of g.I.Issuer.view c.args.self.now in
    let effect = c.plan_tick-plan.result.effect in
    let plans = subst (λ t. PlansTick t c.args.self.now.environments c.args.self.now.stops c.args.now effect) c.table.ensures c.plan_tick-plan.ensures.effect in
    let none : refusal_of_moving old (is_some effect.command) ≡ None = search rules in
    let quiet : is_some effect.command ≡ false = search rules in
    tick_passes old c.args.now effect None None (g.met.I.Issuer.laws c.args.self.now.issuer) plans none (sym (nothing_there effect.command quiet)) refl

pub returns-in-Ok-do_moving-clause-answered : goal.returns-in-Ok-do_moving-clause-answered
returns-in-Ok-do_moving-clause-answered g c = λ past stands.
    let s = settings_in (view_of g.I.Issuer.view c.args.self.now) in
    let effect = c.plan_tick-plan.result.effect in
    let plans = subst (λ t. PlansTick t c.args.self.now.environments c.args.self.now.stops c.args.now effect) c.table.ensures c.plan_tick-plan.ensures.effect in
    let prepared = subst (λ t. IsPreparedFor c.args.self.now.dialect t c.args.self.now.environments effect c.in-Ok.prepared) c.table-2.ensures c.in-Ok.ensures.ok in
    let is = plans past stands.environments stands.stopping ∙ tick_effect_is s past c.args.now in
    ap (λ v. v.items) c.in-Ok-do_moving.ensures.answered ∙ prepared.answered past stands.environments ∙ answered_is s past (tick c.args.now) effect is

pub returns-then-not-has_command-clause-answered : goal.returns-then-not-has_command-clause-answered
returns-then-not-has_command-clause-answered g c = λ past stands.
    let old = view_of g.I.Issuer.view c.args.self.now in
    let effect = c.plan_tick-plan.result.effect in
    let plans = subst (λ t. PlansTick t c.args.self.now.environments c.args.self.now.stops c.args.now effect) c.table.ensures c.plan_tick-plan.ensures.effect in
    let quiet : is_some effect.command ≡ false = search rules in
    c.new.ensures.items ∙ idle_answers_none old past c.args.now effect stands plans (nothing_there effect.command quiet)
