use Rattle.std.proofs.Common.{◌∙◌, refl}
use Rattle.disk_claim.proofs.Claims.{looked_behind}
use Rattle.disk_claim.proofs.watched_disk.WatchedDiskDisk.barrier.Goals as goal

pub returns-in-Some-look_behind-clause-looked : goal.returns-in-Some-look_behind-clause-looked
returns-in-Some-look_behind-clause-looked g c =
    looked_behind g.V.Volume.view c.args.self.now _ c.in-Some.watch c.look_behind.new.self c.in-Some-look_behind.looked
    c.in-Some.is refl refl (c.in-Some-look_behind.ensures.behind ∙ c.in_ok-settled.ensures.at) c.in-Some-look_behind.ensures.held
