use Rattle.std.proofs.Common.{◌≡◌, sym, subst}
use Rattle.hall_plans.specs.Plans.{calls_made}
use Rattle.hall_plans.specs.Changes.{answered_to}
use Rattle.hall_plans.proofs.environments.Environments.call.Goals as goal

pub returns-in-One-clause-answers : goal.returns-in-One-clause-answers
returns-in-One-clause-answers c = rw c.in-One.is c.call_one.ensures.answers

pub returns-in-Ok-clause-answers : goal.returns-in-Ok-clause-answers
returns-in-Ok-clause-answers c = λ wanted made hold.
    subst (λ m. c.in-Ok.done.1.items ≡ answered_to made (calls_made m)) (sym c.in-ShutdownAll.is) (c.in-Ok.ensures.answers wanted made hold)
