use Rattle.http_front.proofs.Trying.{shows_try}
use Rattle.http_front.proofs.ticking.TickerAtFrontTicking.tick.Goals as goal

pub returns-clause-shown : goal.returns-clause-shown
returns-clause-shown g c =
    let tried = c.tick-moved.ensures in
    shows_try c.args.self.now.desk.told c.tick-moved.new.desk.told c.args.self.now.desk.steps c.tick-moved.new.desk.steps
    c.quiet_at-self.result c.tick-moved.result.1 c.tick-moved.result.0
    c.quiet_at-self.ensures tried.made tried.none tried.finds tried.step tried.told
