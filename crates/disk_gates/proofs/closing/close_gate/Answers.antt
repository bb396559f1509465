use Rattle.disk_gates.proofs.Closings.{looked, leaves_behind, closed_behind, closed_before}
use Rattle.std.proofs.Common.{sym, ◌∙◌, ap}
use Rattle.resized_disk.specs.Sectors.{is_open}
use Rattle.disk_gates.proofs.closing.close_gate.Goals as goal

pub returns-in_err-gate-clause-moments : goal.returns-in_err-gate-clause-moments
returns-in_err-gate-clause-moments g c honest settled =
    (looked g.D.Disk.view g.met.D.Disk.laws c.args.disk.now c.args.sector honest settled c.read_sector.new.disk c.read_sector.ensures.reads.same c.read_sector.ensures.reads.untouched).leaves

pub returns-then-is_open-clause-moments : goal.returns-then-is_open-clause-moments
returns-then-is_open-clause-moments g c honest settled =
    leaves_behind g.D.Disk.view g.met.D.Disk.laws c.args.disk.now c.args.sector honest settled c.read_sector.new.disk c.read_sector.ensures.reads.same c.read_sector.ensures.reads.untouched
    c.clear_sector.new.disk c.clear_sector.ensures.moments

pub returns-then-is_open-clause-closed : goal.returns-then-is_open-clause-closed
returns-then-is_open-clause-closed g c honest settled =
    closed_behind g.D.Disk.view g.met.D.Disk.laws c.args.disk.now c.args.sector honest settled c.read_sector.new.disk c.read_sector.ensures.reads.same c.read_sector.ensures.reads.untouched
    c.clear_sector.new.disk c.clear_sector.result c.requires c.clear_sector.ensures.zeros

pub returns-else-is_open-clause-moments : goal.returns-else-is_open-clause-moments
returns-else-is_open-clause-moments g c honest settled =
    (looked g.D.Disk.view g.met.D.Disk.laws c.args.disk.now c.args.sector honest settled c.read_sector.new.disk c.read_sector.ensures.reads.same c.read_sector.ensures.reads.untouched).leaves

pub returns-else-is_open-clause-closed : goal.returns-else-is_open-clause-closed
returns-else-is_open-clause-closed g c honest settled =
    closed_before g.D.Disk.view g.met.D.Disk.laws c.args.disk.now c.args.sector honest settled c.read_sector.new.disk c.read_sector.ensures.reads.same c.read_sector.ensures.reads.untouched
    (sym (ap is_open (c.in_ok-gate.ensures.bytes honest)) ∙ sym c.is_open.ensures ∙ c.if-is_open.false)
