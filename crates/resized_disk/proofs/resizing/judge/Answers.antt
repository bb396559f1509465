use Rattle.std.proofs.Common.{sym, ◌∙◌, ap}
use Rattle.resized_disk.specs.Sectors.{is_header}
use Rattle.resized_disk.proofs.Found.{none_headed}
use Rattle.resized_disk.proofs.resizing.judge.Goals as goal

pub returns-else-is_header-clause-exact : goal.returns-else-is_header-clause-exact
returns-else-is_header-clause-exact g c honest there =
    none_headed (g.D.Disk.view c.args.disk.now).content c.args.base there
    (ap is_header (sym (c.in_ok-header.ensures.bytes honest)) ∙ sym c.is_header.ensures ∙ c.if-is_header.false)
