use Rattle.std.proofs.Common.{refl}
use Rattle.sector_disk.specs.laws.Moments.{settles}
use Rattle.disk_gates.specs.Closing.{DiffersAt}
use Rattle.disk_gates.proofs.Closings.{written}
use Rattle.disk_gates.proofs.closing.clear_sector.Goals as goal

pub returns-in_err-write-clause-moments : goal.returns-in_err-write-clause-moments
returns-in_err-write-clause-moments g c honest settled =
    (written g.D.Disk.view g.met.D.Disk.laws c.args.disk.now c.args.sector honest settled c.write.new.self _ _ refl c.write.ensures.same c.write.ensures.honest).leaves

pub returns-clause-moments : goal.returns-clause-moments
returns-clause-moments g c honest settled =
    let view = g.D.Disk.view in
    let laws = g.met.D.Disk.laws in
    let old = c.args.disk.now in
    let run = written view laws old c.args.sector honest settled c.write.new.self _ _ refl c.write.ensures.same c.write.ensures.honest in
    (settles view laws (view old) c.write.new.self c.barrier.new.self (DiffersAt c.args.sector (view old).content) _ run c.barrier.ensures.same c.barrier.ensures.honest).leaves
