-- The first key from the id on decides.
use Rattle.std.proofs.Common.{◌≡◌, false, sym, subst, ◌∙◌}
use Rattle.std.specs.Str.{bytes_eq}
use Rattle.std.proofs.lemmas.Bool.{true≢false}
use Rattle.async_core.specs.laws.Held.{bytes_eq-true, bytes_eq-refl}
use Rattle.async_core.proofs.NamedPlaces.{no_place, first_place, other_place}
use Rattle.async_core.proofs.ids.first_place.Goals as goal

pub returns-in_default : goal.returns-in_default
returns-in_default c = no_place c.args.ids.now c.args.id.now _ (c.range.ensures.in_range tt) c.in_default.ensures.steps.0

pub returns-then-eq : goal.returns-then-eq
returns-then-eq c = first_place c.args.ids.now c.args.id.now _ (c.range.ensures.in_range tt) _ _ c.in-Some.ensures.steps (bytes_eq-true _ _ (sym c.if-eq.ensures))

pub returns : goal.returns
returns c = other_place c.args.ids.now c.args.id.now _ (c.range.ensures.in_range tt) _ _ c.in-Some.ensures.steps (λ same. absurd (true≢false (sym (bytes_eq-refl c.args.id.now) ∙ subst (λ i. bytes_eq i c.args.id.now ≡ false) same (sym c.if-eq.ensures))))
