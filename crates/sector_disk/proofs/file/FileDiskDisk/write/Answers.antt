use Rattle.std.proofs.Common.{◌≤◌, ◌+◌, ◌*◌, length, ◌∙◌, arith}
use Rattle.sector_disk.proofs.file.FileDiskDisk.write.Goals as goal

pub invariant_of-self-clause-whole : goal.invariant_of-self-clause-whole
invariant_of-self-clause-whole g c honest =
    let disk = c.args.self.now in
    let before = c.write_whole-written.ensures.same.0 honest in
    let fits : 512 * c.args.at + length c.args.bytes.now ≤ length (g.F.RandomAccessFile.view disk.file).content = omega (arith, c.requires.inside, disk.whole before) in
    (c.write_whole-written.ensures.honest before fits).size ∙ disk.whole before

pub returns-clause-honest : goal.returns-clause-honest
returns-clause-honest g c honest =
    let disk = c.args.self.now in
    let fits : 512 * c.args.at + length c.args.bytes.now ≤ length (g.F.RandomAccessFile.view disk.file).content = omega (arith, c.requires.inside, disk.whole honest) in
    rw c.counted.ensures.same ((c.write_whole-written.ensures.honest honest fits).write disk.sectors)
