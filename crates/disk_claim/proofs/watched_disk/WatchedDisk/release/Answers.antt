use Rattle.std.proofs.Common.{◌∙◌, sym}
use Rattle.disk_claim.proofs.Claims.{given_up}
use Rattle.disk_claim.proofs.watched_disk.WatchedDisk.release.Goals as goal

pub returns-in-Held : goal.returns-in-Held
returns-in-Held g c = record {
  zeros = given_up g.D.Disk.view c.args.self c.put.new.disk (sym c.is_some.ensures ∙ c.if-is_some.false) c.in_ok-put-in-Held.ensures.claim;
}
