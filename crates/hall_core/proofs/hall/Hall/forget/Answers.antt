use Rattle.std.proofs.Common.{refl, ap, ◌∙◌}
use Rattle.hall_core.specs.OpenSlots.{has_open}
use Rattle.hall_core.specs.Hall.{view_of}
use Rattle.hall_core.proofs.Ticking.{forgotten_in}
use Rattle.hall_core.proofs.hall.Hall.forget.Goals as goal

pub returns-clause-done : goal.returns-clause-done
returns-clause-done g c = λ past stands.
    let old = view_of g.I.Issuer.view c.args.self.now in
    forgotten_in old (record old { slots = c.forget.new.self }) past c.args.slot stands (g.met.I.Issuer.laws c.args.self.now.issuer) refl refl refl refl refl
    (c.forget.ensures.by_events _ past.slots stands.slots)

pub returns-clause-closed : goal.returns-clause-closed
returns-clause-closed g c = λ broken. ap (λ b. has_open b c.forget.new.self c.args.slot) broken ∙ c.forget.ensures.closed
