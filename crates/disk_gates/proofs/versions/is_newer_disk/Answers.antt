use Rattle.std.proofs.Common.{◌≡◌, ◌*◌, ◌/◌, ◌≤◌, length, sym, ◌∙◌, ap, arith}
use Rattle.resized_disk.specs.Sectors.{sectors_of, half}
use Rattle.disk_gates.specs.Versions.{is_newer_at}
use Rattle.disk_gates.proofs.Pairs.{second_alone}
use Rattle.disk_gates.proofs.versions.is_newer_disk.Goals as goal

pub returns-else-first-clause-exact : goal.returns-else-first-clause-exact
returns-else-first-clause-exact g c honest =
    let content = (g.D.Disk.view c.args.disk.now).content in
    let size : length content ≡ 512 * (g.D.Disk.view c.args.disk.now).sectors = (g.met.D.Disk.laws c.args.disk.now honest).size in
    let reads = c.is_newer_at.ensures.reads in
    let enough : 6 ≤ sectors_of content = omega (arith, size, c.sectors-sectors.ensures, c.if-sectors-lt-LEAST_SECTORS.false) in
    let middle : c.sectors-sectors.result / 2 ≡ half content = omega (arith, size, c.sectors-sectors.ensures) in
    second_alone is_newer_at content (c.sectors-sectors.result / 2) c.in_ok-second.second enough middle
    (sym (c.in_ok-first.ensures.exact honest) ∙ c.if-first.false)
    (c.in_ok-second.ensures.exact (reads.same.honest.1 honest) ∙ ap (is_newer_at (c.sectors-sectors.result / 2)) (reads.untouched honest).content)
