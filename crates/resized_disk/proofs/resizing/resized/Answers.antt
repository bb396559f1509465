use Rattle.std.proofs.Common.{◌<◌, sym, ◌∙◌, arith}
use Rattle.resized_disk.specs.Sectors.{sectors_of}
use Rattle.resized_disk.proofs.Found.{none_on_small, none_alone}
use Rattle.resized_disk.proofs.resizing.resized.Goals as goal

pub returns-then-sectors-lt6-clause-exact : goal.returns-then-sectors-lt6-clause-exact
returns-then-sectors-lt6-clause-exact g c honest =
    let content = (g.D.Disk.view c.args.disk.now).content in
    let small : sectors_of content < 6 = omega (arith, (g.met.D.Disk.laws c.args.disk.now honest).size, c.sectors.ensures, c.if-sectors-lt6.true) in
    none_on_small content small

pub returns-in_default-clause-exact : goal.returns-in_default-clause-exact
returns-in_default-clause-exact g c honest =
    none_alone (g.D.Disk.view c.args.disk.now).content (sym c.in_default.is ∙ c.in_ok-base.ensures.exact honest)
