use Rattle.std.proofs.Common.{refl}
use Rattle.receipts.proofs.Asked.{histories_arrived, histories_moved}
use Rattle.receipts.proofs.locked.Locked.ask.Goals as goal

pub returns-in-Arrive-clause-histories : goal.returns-in-Arrive-clause-histories
returns-in-Arrive-clause-histories g c =
    histories_arrived c.args.self.now c.arrive.new.self _ _ c.args.desk.now c.arrive.new.desk c.in-Arrive.call c.in-Arrive.now c.in-Arrive.words c.arrive.result c.arrive.ensures

pub returns-in-Arrive-clause-number : goal.returns-in-Arrive-clause-number
returns-in-Arrive-clause-number g c = c.arrive.ensures.number

pub returns-then-now-le-GREATEST_MOMENT-clause-histories : goal.returns-then-now-le-GREATEST_MOMENT-clause-histories
returns-then-now-le-GREATEST_MOMENT-clause-histories g c =
    histories_moved c.args.self.now c.tick.new.self _ _ c.args.desk.now c.tick.new.desk c.in-Tick.now c.tick.result c.tick.ensures

pub returns-then-now-le-GREATEST_MOMENT-clause-number : goal.returns-then-now-le-GREATEST_MOMENT-clause-number
returns-then-now-le-GREATEST_MOMENT-clause-number g c = c.tick.ensures.number

pub returns-else-now-le-GREATEST_MOMENT-clause-histories : goal.returns-else-now-le-GREATEST_MOMENT-clause-histories
returns-else-now-le-GREATEST_MOMENT-clause-histories g c = ((λ was. was), (λ other apart. refl))

pub returns-else-now-le-GREATEST_MOMENT-clause-number : goal.returns-else-now-le-GREATEST_MOMENT-clause-number
returns-else-now-le-GREATEST_MOMENT-clause-number g c = refl
