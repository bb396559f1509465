use Rattle.std.proofs.lemmas.Result.{on_ok_weaker}
use Rattle.sector_disk.specs.laws.Moments.{leaves_weaker}
use Rattle.checkpoint.proofs.Appends.{before_or_after, live_after}
use Rattle.checkpoint.proofs.opened.Opened.open_staged.Goals as goal

pub returns-clause-opened : goal.returns-clause-opened
returns-clause-opened g c honest before after commands was replays =
    let view = g.D.Disk.view in
    let live = was.live in
    on_ok_weaker c.open_staged.result
    (λ done. live_after (view c.args.disk.now) c.args.self.now before after commands live replays (view c.open_staged.new.disk) c.open_staged.new.self done.0 done.1 done.2)
    (c.open_staged.ensures.opened honest live.settled live.image.live.area live.image.live.frames commands live.holds was.ahead)

pub returns-clause-any_moment : goal.returns-clause-any_moment
returns-clause-any_moment g c honest before after commands was replays =
    let live = was.live in
    leaves_weaker _ (before_or_after (g.D.Disk.view c.args.disk.now) c.args.self.now before after commands live replays)
    (c.open_staged.ensures.any_moment honest live.settled live.image.live.area live.image.live.frames commands live.holds was.ahead)
