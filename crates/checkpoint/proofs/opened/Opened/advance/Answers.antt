use Rattle.std.proofs.lemmas.Result.{IfOk-weaker}
use Rattle.sector_disk.specs.laws.Moments.{leaves_weaker}
use Rattle.checkpoint.proofs.Appends.{before_or_after, ahead_after}
use Rattle.checkpoint.proofs.opened.Opened.advance.Goals as goal

pub returns-clause-advanced : goal.returns-clause-advanced
returns-clause-advanced g c honest before after commands was replays =
    let view = g.D.Disk.view in
    let live = was.live in
    IfOk-weaker c.advance.result _ _
    (λ next done. ahead_after (view c.args.disk.now) c.args.self.now before after commands live replays (view c.advance.new.disk) c.advance.new.self done.one done.holds done.outside
    c.args.commands.now next done.ahead)
    (c.advance.ensures.advanced honest live.settled live.image.live.area live.image.live.frames commands live.holds was.ahead)

pub returns-clause-any_moment : goal.returns-clause-any_moment
returns-clause-any_moment g c honest before after commands was replays =
    let live = was.live in
    leaves_weaker _ (before_or_after (g.D.Disk.view c.args.disk.now) c.args.self.now before after commands live replays)
    (c.advance.ensures.any_moment honest live.settled live.image.live.area live.image.live.frames commands live.holds was.ahead)
