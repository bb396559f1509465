use Rattle.std.proofs.Common.{◌*◌, ◌≤◌, length, arith}
use Rattle.gate_journal.proofs.Ahead.{leaves, gate_run, gate_settled, opened}
use Rattle.gate_journal.proofs.journal.Journal.open_staged.Goals as goal

pub returns-in_err-write-clause-any_moment : goal.returns-in_err-write-clause-any_moment
returns-in_err-write-clause-any_moment g c honest settled area frames commands holds s =
    let there : 512 * area.end ≤ length (g.D.Disk.view c.args.disk.now).content = omega (arith, (g.met.D.Disk.laws c.args.disk.now honest).size, holds.end, c.requires.room) in
    leaves g.D.Disk.view g.met.D.Disk.laws c.args.disk.now honest settled area frames commands c.args.staged holds.reads there s _
    (gate_run g.D.Disk.view g.met.D.Disk.laws c.args.disk.now honest settled area frames commands c.args.staged holds.reads there s
    c.args.self.now.next holds.next _ c.open_gate.ensures.whole c.write.new.self c.write.result c.write.ensures.same c.write.ensures.honest)

pub returns-in_err-barrier-clause-any_moment : goal.returns-in_err-barrier-clause-any_moment
returns-in_err-barrier-clause-any_moment g c honest settled area frames commands holds s =
    let there : 512 * area.end ≤ length (g.D.Disk.view c.args.disk.now).content = omega (arith, (g.met.D.Disk.laws c.args.disk.now honest).size, holds.end, c.requires.room) in
    leaves g.D.Disk.view g.met.D.Disk.laws c.args.disk.now honest settled area frames commands c.args.staged holds.reads there s _
    (gate_settled g.D.Disk.view g.met.D.Disk.laws c.args.disk.now honest settled area frames commands c.args.staged holds.reads there s
    c.args.self.now.next holds.next _ c.open_gate.ensures.whole c.write.new.self c.write.result c.write.ensures.same c.write.ensures.honest
    c.barrier.new.self c.barrier.result c.barrier.ensures.same c.barrier.ensures.honest)

pub returns-clause-any_moment : goal.returns-clause-any_moment
returns-clause-any_moment g c honest settled area frames commands holds s =
    let there : 512 * area.end ≤ length (g.D.Disk.view c.args.disk.now).content = omega (arith, (g.met.D.Disk.laws c.args.disk.now honest).size, holds.end, c.requires.room) in
    leaves g.D.Disk.view g.met.D.Disk.laws c.args.disk.now honest settled area frames commands c.args.staged holds.reads there s _
    (gate_settled g.D.Disk.view g.met.D.Disk.laws c.args.disk.now honest settled area frames commands c.args.staged holds.reads there s
    c.args.self.now.next holds.next _ c.open_gate.ensures.whole c.write.new.self c.write.result c.write.ensures.same c.write.ensures.honest
    c.barrier.new.self c.barrier.result c.barrier.ensures.same c.barrier.ensures.honest)

pub returns-clause-opened : goal.returns-clause-opened
returns-clause-opened g c honest settled area frames commands holds s =
    let there : 512 * area.end ≤ length (g.D.Disk.view c.args.disk.now).content = omega (arith, (g.met.D.Disk.laws c.args.disk.now honest).size, holds.end, c.requires.room) in
    let now = opened g.D.Disk.view g.met.D.Disk.laws c.args.disk.now honest settled area frames commands c.args.staged holds.reads there s
    c.args.self.now.next holds.next _ c.open_gate.ensures.whole c.write.new.self c.write.result c.write.ensures.same c.write.ensures.honest
    c.barrier.new.self c.open_gate.ensures.opened c.in_ok-write.ensures.honest c.in_ok-barrier.ensures.honest in (
      now.0,
      record {
        reads = now.1;
        next = omega (arith, holds.next, s.sectors);
        number = omega (arith, holds.number, s.count);
        end = holds.end;
        generation = holds.generation;
      },
      now.2,
    )
