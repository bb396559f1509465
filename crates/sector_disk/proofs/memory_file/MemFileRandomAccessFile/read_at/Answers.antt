use Rattle.std.proofs.Common.{◌≡◌, ◌+◌, ◌-◌, take, drop, arith}
use Rattle.sector_disk.specs.MemoryFile.{memory_view}
use Rattle.sector_disk.proofs.MemoryFiles.{read_is}
use Rattle.sector_disk.proofs.memory_file.MemFileRandomAccessFile.read_at.Goals as goal

pub returns-clause-honest : goal.returns-clause-honest
returns-clause-honest c honest =
    let file = c.args.self.now in
    let from = c.min-from.result in
    let count = c.min-count.result in
    let some : from + count - from ≡ count = omega arith in
    read_is (memory_view file) c.args.at from count c.args.out.now c.overwrite.new.content _ (omega (arith, file.bytes.ok.0)) (omega (arith, file.bytes.ok.0)) (omega arith)
    (λ i. take (some i) (drop from (c.deref.ensures.value i))) c.overwrite.ensures.holds
