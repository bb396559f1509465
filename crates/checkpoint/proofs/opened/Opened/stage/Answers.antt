use Rattle.std.proofs.lemmas.Result.{IfOk-weaker}
use Rattle.sector_disk.specs.laws.Moments.{leaves_weaker}
use Rattle.checkpoint.proofs.Appends.{table_still, ahead_still}
use Rattle.checkpoint.proofs.opened.Opened.stage.Goals as goal

pub returns-clause-staged : goal.returns-clause-staged
returns-clause-staged g c honest table live =
    let view = g.D.Disk.view in
    IfOk-weaker c.stage.result _ _
    (λ staged done. ahead_still (view c.args.disk.now) c.args.self.now table live (view c.stage.new.disk) done.one done.holds done.outside c.args.commands.now staged done.ahead)
    (c.stage.ensures.staged honest live.settled live.image.live.area live.image.live.frames live.holds)

pub returns-clause-any_moment : goal.returns-clause-any_moment
returns-clause-any_moment g c honest table live =
    leaves_weaker _ (λ image is. table_still (g.D.Disk.view c.args.disk.now) c.args.self.now table live image is.outside is.reads)
    (c.stage.ensures.any_moment honest live.settled live.image.live.area live.image.live.frames live.holds)
