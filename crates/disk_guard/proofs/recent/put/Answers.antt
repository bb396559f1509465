use Rattle.std.proofs.Common.{Some}
use Rattle.std.proofs.lemmas.List.Elements.{All-set}
use Rattle.disk_guard.specs.Marks.{IsRight}
use Rattle.disk_guard.proofs.recent.put.Goals as goal

pub returns-clause-right : goal.returns-clause-right
returns-clause-right c = λ content is were. All-set (IsRight content) c.args.marks.now c.args.place (Some c.args.mark) is were
