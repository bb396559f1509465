use Rattle.std.proofs.lemmas.Result.{on_ok_weaker}
use Rattle.sector_disk.specs.laws.Moments.{leaves_weaker}
use Rattle.checkpoint.proofs.Appends.{before_or_after, live_after}
use Rattle.checkpoint.proofs.opened.Opened.append.Goals as goal

pub returns-clause-acknowledged : goal.returns-clause-acknowledged
returns-clause-acknowledged g c honest before after live replays =
    let view = g.D.Disk.view in
    on_ok_weaker c.append.result
    (λ done. live_after (view c.args.disk.now) c.args.self.now before after c.args.commands.now live replays (view c.append.new.disk) c.append.new.self done.0 done.1 done.2)
    (c.append.ensures.acknowledged honest live.settled live.image.live.area live.image.live.frames live.holds)

pub returns-clause-any_moment : goal.returns-clause-any_moment
returns-clause-any_moment g c honest before after live replays =
    leaves_weaker _ (before_or_after (g.D.Disk.view c.args.disk.now) c.args.self.now before after c.args.commands.now live replays)
    (c.append.ensures.any_moment honest live.settled live.image.live.area live.image.live.frames live.holds)
