use Rattle.std.proofs.Common.{None}
use Rattle.std.proofs.lemmas.List.Elements.{All-replicate}
use Rattle.disk_guard.specs.Marks.{IsRight}
use Rattle.disk_guard.proofs.recent.Recent.new.Goals as goal

pub returns : goal.returns
returns c = λ content. All-replicate (IsRight content) 64 None tt
