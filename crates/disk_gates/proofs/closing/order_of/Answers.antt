use Rattle.std.proofs.Common.{◌≡◌, ◌+◌, ◌*◌, ◌/◌, length, ◌∙◌, ap, arith}
use Rattle.resized_disk.specs.Sectors.{sector_at, half}
use Rattle.disk_gates.specs.Closing.{rank_of}
use Rattle.disk_gates.proofs.Closings.{first_chosen, second_chosen}
use Rattle.disk_gates.proofs.closing.order_of.Goals as goal

pub returns-then-rank_of-clause-exact : goal.returns-then-rank_of-clause-exact
returns-then-rank_of-clause-exact g c honest =
    let content = (g.D.Disk.view c.args.disk.now).content in
    let size : length content ≡ 512 * (g.D.Disk.view c.args.disk.now).sectors = (g.met.D.Disk.laws c.args.disk.now honest).size in
    let reads = c.read_sector.ensures.reads in
    let middle : c.sectors-half.result / 2 ≡ half content = omega (arith, size, c.sectors-half.ensures) in
    let first = c.rank_of.ensures ∙ ap rank_of (c.in_ok-first.ensures.bytes honest) in
    let second = c.rank_of-2.ensures ∙ ap rank_of (c.in_ok-second.ensures.bytes (reads.same.honest.1 honest) ∙ ap (sector_at (c.sectors-half.result / 2 + 1)) (reads.untouched honest).content) in
    first_chosen content (c.sectors-half.result / 2) c.rank_of.result c.rank_of-2.result middle first second c.if-rank_of.true

pub returns-else-rank_of-clause-exact : goal.returns-else-rank_of-clause-exact
returns-else-rank_of-clause-exact g c honest =
    let content = (g.D.Disk.view c.args.disk.now).content in
    let size : length content ≡ 512 * (g.D.Disk.view c.args.disk.now).sectors = (g.met.D.Disk.laws c.args.disk.now honest).size in
    let reads = c.read_sector.ensures.reads in
    let middle : c.sectors-half.result / 2 ≡ half content = omega (arith, size, c.sectors-half.ensures) in
    let first = c.rank_of.ensures ∙ ap rank_of (c.in_ok-first.ensures.bytes honest) in
    let second = c.rank_of-2.ensures ∙ ap rank_of (c.in_ok-second.ensures.bytes (reads.same.honest.1 honest) ∙ ap (sector_at (c.sectors-half.result / 2 + 1)) (reads.untouched honest).content) in
    second_chosen content (c.sectors-half.result / 2) c.rank_of.result c.rank_of-2.result middle first second c.if-rank_of.false
