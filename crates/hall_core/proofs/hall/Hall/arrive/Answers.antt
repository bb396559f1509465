use Rattle.std.proofs.Common.{rules, ◌≡◌, ap, subst, ◌∙◌, inl, inr, None, Some}
use Rattle.std.specs.Prelude.{is_some, slice_index}
use Rattle.hall_plans.specs.Plans.{PlansRequest}
use Rattle.hall_plans.specs.Prepared.{IsPreparedFor}
use Rattle.hall_core.specs.Issuing.{HasPlaceFor}
use Rattle.hall_plans.specs.Effects.{Effect}
use Rattle.hall_core.specs.Hall.{view_of, settings_in, request, refusal_of_arrival}
use Rattle.hall_core.proofs.Arriving.{arrived, answered_is, refused_by, finds_place, is_free, effect_is, arrival_passes, planned_unrefused, called_but_for_memory, issued_but_for_memory}
use Rattle.hall_core.proofs.Reasons.{arrival_reason, uncalled_reason, wanting_reason, request_would, told_asked}
use Rattle.hall_core.proofs.hall.Hall.arrive.Goals as goal

pub returns-in-Some-clause-refused : goal.returns-in-Some-clause-refused
returns-in-Some-clause-refused g c = λ past stands.
    let old = view_of g.I.Issuer.view c.args.self.now in
    let laws = g.met.I.Issuer.laws c.args.self.now.issuer in
    let effect = c.plan_request-plan.result.effect in
    let plans = subst (λ t. PlansRequest t c.args.self.now.environments c.args.slot c.args.call c.args.now c.args.words effect) c.table.ensures c.plan_request-plan.ensures.effect in
    let why : refusal_of_arrival old (is_some effect.command) ≡ Some c.in-Some.why = search rules in
    inl (refused_by old past c.args.slot c.args.call c.args.now c.args.words effect laws stands plans ∙ why)

pub returns-in-Ok-do_for-clause-ok : goal.returns-in-Ok-do_for-clause-ok
returns-in-Ok-do_for-clause-ok g c = λ past stands.
    let old = view_of g.I.Issuer.view c.args.self.now in
    let new = view_of g.I.Issuer.view c.do_for.new.self in
    let effect = c.plan_request-plan.result.effect in
    let plans = subst (λ t. PlansRequest t c.args.self.now.environments c.args.slot c.args.call c.args.now c.args.words effect) c.table.ensures c.plan_request-plan.ensures.effect in
    let prepared = subst (λ t. IsPreparedFor c.args.self.now.dialect t c.args.self.now.environments effect c.in-Ok.prepared) c.table-2.ensures c.in-Ok.ensures.ok in
    let none : refusal_of_arrival old (is_some effect.command) ≡ None = search rules in
    arrived old new past c.args.slot c.args.call c.args.now c.args.words effect c.in-Ok.prepared c.is_stop-stops.result c.unavailable-told.result c.in-Ok-do_for.issued
    (g.met.I.Issuer.laws c.args.self.now.issuer) (g.met.I.Issuer.laws c.do_for.new.self.issuer) stands c.requires.fit none plans prepared c.in-Ok-do_for.ensures.dialect
    c.in-Ok-do_for.ensures.issuer c.in-Ok-do_for.ensures.issued c.in-Ok-do_for.ensures.count c.in-Ok-do_for.ensures.environments c.in-Ok-do_for.ensures.wanted
    c.in-Ok-do_for.ensures.slots (c.unavailable-told.ensures (settings_in old)) c.in-Ok-do_for.ensures.stops c.is_stop-stops.ensures

pub returns-in-Err-clause-refused : goal.returns-in-Err-clause-refused
returns-in-Err-clause-refused g c = λ past stands.
    let old = view_of g.I.Issuer.view c.args.self.now in
    let laws = g.met.I.Issuer.laws c.args.self.now.issuer in
    let effect = c.plan_request-plan.result.effect in
    let plans = subst (λ t. PlansRequest t c.args.self.now.environments c.args.slot c.args.call c.args.now c.args.words effect) c.table.ensures c.plan_request-plan.ensures.effect in
    let none : refusal_of_arrival old (is_some effect.command) ≡ None = search rules in
    let is = plans past stands.environments ∙ effect_is (settings_in old) past c.args.slot c.args.call c.args.now c.args.words in
    let made = planned_unrefused old past c.args.slot c.args.call c.args.now c.args.words effect laws stands c.requires.fit none is in (
    inr (
      refused_by old past c.args.slot c.args.call c.args.now c.args.words effect laws stands plans ∙ none,
      called_but_for_memory old past (request c.args.slot c.args.call c.args.now c.args.words) effect c.in-Err.why stands is made c.in-Err.ensures.refused,
    )
    )

pub returns-in-Err-do_for-clause-refused : goal.returns-in-Err-do_for-clause-refused
returns-in-Err-do_for-clause-refused g c = λ past stands.
    let old = view_of g.I.Issuer.view c.args.self.now in
    let laws = g.met.I.Issuer.laws c.args.self.now.issuer in
    let effect = c.plan_request-plan.result.effect in
    let plans = subst (λ t. PlansRequest t c.args.self.now.environments c.args.slot c.args.call c.args.now c.args.words effect) c.table.ensures c.plan_request-plan.ensures.effect in
    let prepared = subst (λ t. IsPreparedFor c.args.self.now.dialect t c.args.self.now.environments effect c.in-Ok.prepared) c.table-2.ensures c.in-Ok.ensures.ok in
    let none : refusal_of_arrival old (is_some effect.command) ≡ None = search rules in
    let place : HasPlaceFor (g.I.Issuer.view c.args.self.now.issuer) c.in-Ok.prepared.command = rw prepared.command (finds_place old effect.command laws none) in
    let is = plans past stands.environments ∙ effect_is (settings_in old) past c.args.slot c.args.call c.args.now c.args.words in
    let made = planned_unrefused old past c.args.slot c.args.call c.args.now c.args.words effect laws stands c.requires.fit none is in (
    inr (
      refused_by old past c.args.slot c.args.call c.args.now c.args.words effect laws stands plans ∙ none,
      issued_but_for_memory old past (request c.args.slot c.args.call c.args.now c.args.words) c.in-Ok.prepared.command c.in-Err-do_for.why stands made
          (prepared.command ∙ ap (λ (e : Effect). e.command) is) (c.in-Err-do_for.ensures.refused place),
    )
    )

pub returns-in-Some-clause-reason : goal.returns-in-Some-clause-reason
returns-in-Some-clause-reason g c =
    let old = view_of g.I.Issuer.view c.args.self.now in
    let effect = c.plan_request-plan.result.effect in
    let plans = subst (λ t. PlansRequest t c.args.self.now.environments c.args.slot c.args.call c.args.now c.args.words effect) c.table.ensures c.plan_request-plan.ensures.effect in
    let why : refusal_of_arrival old (is_some effect.command) ≡ Some c.in-Some.why = search rules in
    arrival_reason old (is_some effect.command) c.in-Some.why c.args.slot c.args.call c.args.now (slice_index c.args.words 0, slice_index c.args.words 1)
    (request_would old c.args.slot c.args.call c.args.now c.args.words effect plans c.plan_request-plan.ensures.asked) why

pub returns-in-Err-clause-reason : goal.returns-in-Err-clause-reason
returns-in-Err-clause-reason g c =
    let old = view_of g.I.Issuer.view c.args.self.now in
    let laws = g.met.I.Issuer.laws c.args.self.now.issuer in
    let effect = c.plan_request-plan.result.effect in
    let req = request c.args.slot c.args.call c.args.now c.args.words in
    let plans = subst (λ t. PlansRequest t c.args.self.now.environments c.args.slot c.args.call c.args.now c.args.words effect) c.table.ensures c.plan_request-plan.ensures.effect in
    let none : refusal_of_arrival old (is_some effect.command) ≡ None = search rules in
    uncalled_reason old req tt c.args.self.now.environments effect.made c.in-Err.why
    (λ past stands.
    let is = plans past stands.environments ∙ effect_is (settings_in old) past c.args.slot c.args.call c.args.now c.args.words in
    let made = planned_unrefused old past c.args.slot c.args.call c.args.now c.args.words effect laws stands c.requires.fit none is in
    called_but_for_memory old past req effect c.in-Err.why stands is made c.in-Err.ensures.refused) c.in-Err.ensures.refused

pub returns-in-Err-do_for-clause-reason : goal.returns-in-Err-do_for-clause-reason
returns-in-Err-do_for-clause-reason g c =
    let old = view_of g.I.Issuer.view c.args.self.now in
    let laws = g.met.I.Issuer.laws c.args.self.now.issuer in
    let effect = c.plan_request-plan.result.effect in
    let req = request c.args.slot c.args.call c.args.now c.args.words in
    let plans = subst (λ t. PlansRequest t c.args.self.now.environments c.args.slot c.args.call c.args.now c.args.words effect) c.table.ensures c.plan_request-plan.ensures.effect in
    let prepared = subst (λ t. IsPreparedFor c.args.self.now.dialect t c.args.self.now.environments effect c.in-Ok.prepared) c.table-2.ensures c.in-Ok.ensures.ok in
    let none : refusal_of_arrival old (is_some effect.command) ≡ None = search rules in
    let place : HasPlaceFor (g.I.Issuer.view c.args.self.now.issuer) c.in-Ok.prepared.command = rw prepared.command (finds_place old effect.command laws none) in
    wanting_reason old req tt (g.I.Issuer.view c.args.self.now.issuer) c.in-Ok.prepared.command c.in-Err-do_for.why
    (λ past stands.
    let is = plans past stands.environments ∙ effect_is (settings_in old) past c.args.slot c.args.call c.args.now c.args.words in
    let made = planned_unrefused old past c.args.slot c.args.call c.args.now c.args.words effect laws stands c.requires.fit none is in
    issued_but_for_memory old past req c.in-Ok.prepared.command c.in-Err-do_for.why stands made
    (prepared.command ∙ ap (λ (e : Effect). e.command) is) (c.in-Err-do_for.ensures.refused place)) (c.in-Err-do_for.ensures.refused place)

pub do_for-requires-clause-free : goal.do_for-requires-clause-free
do_for-requires-clause-free g c =
    let old = view_of g.I.Issuer.view c.args.self.now in
    let effect = c.plan_request-plan.result.effect in
    let none : refusal_of_arrival old (is_some effect.command) ≡ None = search rules in
    is_free old (is_some effect.command) c.args.slot none c.requires.free

pub returns-in-Ok-do_for-clause-asked : goal.returns-in-Ok-do_for-clause-asked
returns-in-Ok-do_for-clause-asked g c =
    rw (c.in-Ok-do_for.ensures.issued, c.in-Ok.ensures.ok.command) (told_asked _ _ _ _ c.plan_request-plan.ensures.asked)

pub returns-in-Ok-do_for-clause-passes : goal.returns-in-Ok-do_for-clause-passes
returns-in-Ok-do_for-clause-passes g c =
    let old = view_of g.I.Issuer.view c.args.self.now in
    let effect = c.plan_request-plan.result.effect in
    let plans = subst (λ t. PlansRequest t c.args.self.now.environments c.args.slot c.args.call c.args.now c.args.words effect) c.table.ensures c.plan_request-plan.ensures.effect in
    let none : refusal_of_arrival old (is_some effect.command) ≡ None = search rules in
    arrival_passes old c.args.slot c.args.call c.args.now c.args.words effect c.in-Ok.prepared.command c.in-Ok-do_for.issued
    (g.met.I.Issuer.laws c.args.self.now.issuer) plans none c.in-Ok.ensures.ok.command c.in-Ok-do_for.ensures.issued

pub returns-in-Ok-do_for-clause-answered : goal.returns-in-Ok-do_for-clause-answered
returns-in-Ok-do_for-clause-answered g c = λ past stands.
    let s = settings_in (view_of g.I.Issuer.view c.args.self.now) in
    let req = request c.args.slot c.args.call c.args.now c.args.words in
    let effect = c.plan_request-plan.result.effect in
    let plans = subst (λ t. PlansRequest t c.args.self.now.environments c.args.slot c.args.call c.args.now c.args.words effect) c.table.ensures c.plan_request-plan.ensures.effect in
    let prepared = subst (λ t. IsPreparedFor c.args.self.now.dialect t c.args.self.now.environments effect c.in-Ok.prepared) c.table-2.ensures c.in-Ok.ensures.ok in
    let is = plans past stands.environments ∙ effect_is s past c.args.slot c.args.call c.args.now c.args.words in
    ap (λ v. v.items) c.in-Ok-do_for.ensures.answered ∙ prepared.answered past stands.environments ∙ answered_is s past req effect is

pub do_for-requires-clause-told : goal.do_for-requires-clause-told
do_for-requires-clause-told g c = c.unavailable-told.ensures (settings_in (view_of g.I.Issuer.view c.args.self.now))
