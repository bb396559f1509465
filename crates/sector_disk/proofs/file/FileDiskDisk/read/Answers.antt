use Rattle.std.proofs.Common.{length, ◌∙◌, ap}
use Rattle.sector_disk.proofs.file.FileDiskDisk.read.Goals as goal

pub invariant_of-self-clause-whole : goal.invariant_of-self-clause-whole
invariant_of-self-clause-whole g c honest =
    let before = c.read_whole-read.ensures.same.0 honest in
    ap length (c.read_whole-read.ensures.honest before 0).untouched.content ∙ c.args.self.now.whole before

pub returns-clause-honest : goal.returns-clause-honest
returns-clause-honest g c honest =
    rw c.counted.ensures.same (c.read_whole-read.ensures.honest honest c.args.self.now.sectors)
