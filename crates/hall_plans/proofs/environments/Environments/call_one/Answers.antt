use Rattle.std.proofs.Common.{[], ◌∷◌, ◌++◌, refl, sym, ap, subst, ◌∙◌}
use Rattle.std.proofs.lemmas.List.{append-nil}
use Rattle.env_phase.specs.State.{IsRefused, StandsFor}
use Rattle.hall_plans.specs.Past.{calls_in}
use Rattle.hall_plans.proofs.environments.Environments.call_one.Goals as goal

pub returns-in-Ok-clause-leads : goal.returns-in-Ok-clause-leads
returns-in-Ok-clause-leads c = λ wanted made hold.
    let made_of = sym c.in-Ok.ensures.number in
    record {
      call = c.args.call;
      only = ap (λ n. (n, c.args.call) ∷ []) made_of;
      stands = (
        c.in-Ok.ensures.wanted wanted made hold,
        subst (λ n. StandsFor c.in-Ok.env (calls_in n made ++ c.args.call ∷ [])) made_of (c.in-Ok.ensures.ok wanted made hold).1,
      );
    }

pub returns-in-Ok-clause-answers : goal.returns-in-Ok-clause-answers
returns-in-Ok-clause-answers c = λ wanted made hold. (c.in-Ok.ensures.ok wanted made hold).2 ∙ sym (append-nil _)

pub returns-in-Err-Refused-clause-refused : goal.returns-in-Err-Refused-clause-refused
returns-in-Err-Refused-clause-refused c = λ wanted made hold. record {
  environment = c.args.environment;
  call = c.args.call;
  why = c.in-Err-Refused.field-0-0;
  only = refl;
  refused = subst (IsRefused wanted (calls_in c.args.environment made) c.args.call) c.in-Err-Refused.field-0-is (c.in-Err-Refused.ensures.refused wanted made hold);
}
