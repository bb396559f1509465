use Rattle.std.proofs.Common.{rules}
use Rattle.hall_plans.specs.Agreement.{IsOne}
use Rattle.hall_plans.specs.Environments.{IsNumberIn}
use Rattle.hall_plans.proofs.Holders.{holds_is}
use Rattle.hall_plans.proofs.planner.Planner.holds.Goals as goal

pub returns-then-has-clause-holds : goal.returns-then-has-clause-holds
returns-then-has-clause-holds c past meets =
    let number : IsNumberIn c.args.self.now.environments.now c.args.environment = search rules in
    let one : IsOne c.args.self.now.table.now.settings c.args.environment = (number.0, rw meets.count at number.1) in
    holds_is c.args.self.now.table.now.settings past c.args.environment c.args.id.now c.runs.result one (c.runs.ensures past meets)
