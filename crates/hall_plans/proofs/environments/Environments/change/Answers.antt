use Rattle.std.proofs.Common.{subst}
use Rattle.hall_plans.specs.Changes.{LeadsTo}
use Rattle.hall_plans.proofs.environments.Environments.change.Goals as goal

-- src/changes.rt:22:5
pub returns-in-One-clause-hold : goal.returns-in-One-clause-hold
returns-in-One-clause-hold c = λ more leads wanted made hold.
    let one = subst (λ changes. LeadsTo c.args.self.now changes more) c.in-One.is leads wanted made hold in
    rw one.only (c.put.ensures.hold wanted made hold one.call one.stands)
