use Rattle.std.proofs.Common.{ℕ, refl, sym, ap, subst, ◌∙◌}
use Rattle.std.specs.Prelude.{None}
use Rattle.broker_core.specs.IssuerHalf.{lent_of}
use Rattle.group_commit.specs.declared.split_drilling.Held.TheVariants as held
use Rattle.group_commit.specs.SplitSteps.{IsHeld, Keeps}
use Rattle.group_commit.proofs.SplitDrilled.{up_to, settled, settle_refused}
use Rattle.group_commit.proofs.split_drilling.settle.Goals as goal

pub returns-in-Ok : goal.returns-in-Ok
returns-in-Ok c = record {
  step = λ s log keeps.
      let old = c.args.halves in
      let n : ℕ = c.number.result in
      let is = subst (IsHeld log (lent_of old.issue)) c.in-Done.is keeps.held_is in
      let facts = settled s log old c.settle.new.self keeps c.in-Done.outcome c.in-Ok.durable is c.in-Ok.ensures.ok in (
        record log { durable = n; unsettled = None },
        (facts.0 ∙ ap up_to (sym c.number.ensures), refl),
        subst (λ (k : ℕ). Keeps s (record log { durable = k; unsettled = None }) (record old { issue = c.settle.new.self; held = held.Nothing })) (sym c.number.ensures) facts.1,
      );
}

pub returns-in-Err : goal.returns-in-Err
returns-in-Err c = record {
  step = λ s log keeps.
      let old = c.args.halves in
      let is = subst (IsHeld log (lent_of old.issue)) c.in-Done.is keeps.held_is in
      settle_refused s log old c.settle.new.self keeps c.in-Done.outcome c.in-Err.why is c.in-Err.ensures.err;
}
