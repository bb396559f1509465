use Rattle.std.proofs.Common.{rules, ◌≡◌, refl, sym, ap, ◌∙◌}
use Rattle.std.specs.Prelude.{Some, option_map}
use Rattle.hall_core.specs.Hall.{view_of}
use Rattle.hall_core.proofs.Ticking.{taken_from, gives, gives_for, as_released}
use Rattle.hall_core.proofs.hall.Hall.take.Goals as goal

pub returns-in-Some-clause-gives : goal.returns-in-Some-clause-gives
returns-in-Some-clause-gives g c = λ past stands.
    let broken : c.args.self.now.broken ≡ (g.I.Issuer.view c.args.self.now.issuer).broken = search rules in
    let durable : c.args.self.now.receipt ≡ (g.I.Issuer.view c.args.self.now.issuer).durable = search rules in
    ap Some c.new.ensures ∙ ap (option_map (as_released c.args.slot)) (sym c.in-Some.is) ∙ gives _ past c.args.slot _ _ _ _ c.take.result (c.take.ensures.gives _ past.slots stands.slots) broken durable

pub returns-in-None-clause-gives : goal.returns-in-None-clause-gives
returns-in-None-clause-gives g c = λ past stands.
    let broken : c.args.self.now.broken ≡ (g.I.Issuer.view c.args.self.now.issuer).broken = search rules in
    let durable : c.args.self.now.receipt ≡ (g.I.Issuer.view c.args.self.now.issuer).durable = search rules in
    ap (option_map (as_released c.args.slot)) (sym c.in-None.is) ∙ gives _ past c.args.slot _ _ _ _ c.take.result (c.take.ensures.gives _ past.slots stands.slots) broken durable

pub returns-in-Some-clause-some : goal.returns-in-Some-clause-some
returns-in-Some-clause-some g c = λ past stands.
    let old = view_of g.I.Issuer.view c.args.self.now in
    taken_from old (record old { slots = c.take.new.self }) past c.args.slot stands (g.met.I.Issuer.laws c.args.self.now.issuer) refl refl refl refl refl
    (c.in-Some.ensures.some _ past.slots stands.slots)

pub returns-in-Some-clause-kept : goal.returns-in-Some-clause-kept
returns-in-Some-clause-kept g c = λ s events keeps.
    let broken : c.args.self.now.broken ≡ (g.I.Issuer.view c.args.self.now.issuer).broken = search rules in
    let durable : c.args.self.now.receipt ≡ (g.I.Issuer.view c.args.self.now.issuer).durable = search rules in
    ap Some c.new.ensures ∙ ap (option_map (as_released c.args.slot)) (sym c.in-Some.is) ∙ gives_for s events c.args.slot _ _ _ _ c.take.result (c.take.ensures.gives s events keeps) broken durable

pub returns-in-None-clause-kept : goal.returns-in-None-clause-kept
returns-in-None-clause-kept g c = λ s events keeps.
    let broken : c.args.self.now.broken ≡ (g.I.Issuer.view c.args.self.now.issuer).broken = search rules in
    let durable : c.args.self.now.receipt ≡ (g.I.Issuer.view c.args.self.now.issuer).durable = search rules in
    ap (option_map (as_released c.args.slot)) (sym c.in-None.is) ∙ gives_for s events c.args.slot _ _ _ _ c.take.result (c.take.ensures.gives s events keeps) broken durable
