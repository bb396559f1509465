use Rattle.std.proofs.Common.{◌≡◌, ◌/◌, ◌≤◌, ◌∙◌, ap, arith}
use Rattle.resized_disk.specs.Sectors.{sector_at, sectors_of, half, is_open}
use Rattle.resized_disk.proofs.Found.{open_there}
use Rattle.resized_disk.proofs.segment.read_lone.Goals as goal

pub returns-clause-exact : goal.returns-clause-exact
returns-clause-exact g c honest =
    let content = (g.D.Disk.view c.args.disk.now).content in
    let size = (g.met.D.Disk.laws c.args.disk.now honest).size in
    let first = c.read_sector.ensures.reads in
    let honest_1 = first.same.honest.1 honest in
    let content_1 = (first.untouched honest).content in
    let enough : 6 ≤ sectors_of content = omega (arith, size, c.requires) in
    let middle : c.sectors-half.result / 2 ≡ half content = omega (arith, size, c.sectors-half.ensures) in
    let gate_a = c.is_open.ensures ∙ ap is_open (c.in_ok-gate_a.ensures.bytes honest) in
    let gate_b = c.is_open-2.ensures ∙ ap is_open (c.in_ok-gate_b.ensures.bytes honest_1 ∙ ap (sector_at (c.sectors-half.result / 2)) content_1) in
    c.lone_base.ensures.exact
    ∙ open_there content (c.sectors-half.result / 2) c.is_open.result c.is_open-2.result enough middle gate_a gate_b
