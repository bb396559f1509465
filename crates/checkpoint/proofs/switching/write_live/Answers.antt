use Rattle.std.proofs.Common.{◌≤◌, ap, arith}
use Rattle.std.proofs.lemmas.Result.{on_ok_weaker}
use Rattle.sector_disk.specs.laws.Moments.{joined, leaves_weaker}
use Rattle.gate_journal.specs.Frames.{is_open}
use Rattle.checkpoint.specs.Pieces.{parts_text}
use Rattle.checkpoint.specs.SwitchSteps.{IsSwitching}
use Rattle.checkpoint.proofs.Rewrites.{closing, writing, opening, switched}
use Rattle.checkpoint.proofs.switching.write_live.Goals as goal

pub returns-in_err-close_gate-clause-any_moment : goal.returns-in_err-close_gate-clause-any_moment
returns-in_err-close_gate-clause-any_moment g c honest settled gate =
    let was = (g.D.Disk.view c.args.disk.now).content in
    let text = parts_text c.args.header.now c.args.snapshot.now in
    let enough : 2 ≤ c.args.sectors = omega (arith, c.requires.room) in
    leaves_weaker _ (closing c.args.base c.args.sectors enough c.args.was_open text was) (c.close_gate.ensures.any_moment honest settled gate)

pub returns-in_err-write_parts-clause-any_moment : goal.returns-in_err-write_parts-clause-any_moment
returns-in_err-write_parts-clause-any_moment g c honest settled gate =
    let was = (g.D.Disk.view c.args.disk.now).content in
    let text = parts_text c.args.header.now c.args.snapshot.now in
    let enough : 2 ≤ c.args.sectors = omega (arith, c.requires.room) in
    let closed = c.in_ok-close_gate.ensures.written gate honest settled in
    let mid = g.D.Disk.view c.close_gate.new.disk in
    joined (c.close_gate.ensures.any_moment honest settled gate) (c.write_parts.ensures.any_moment (c.close_gate.ensures.same.honest.1 honest) closed.0.settled)
    (IsSwitching c.args.base c.args.sectors c.args.was_open text was)
    (closing c.args.base c.args.sectors enough c.args.was_open text was)
    (writing c.args.base c.args.sectors enough c.args.was_open text was mid.content closed.0.differs closed.1)

pub returns-clause-any_moment : goal.returns-clause-any_moment
returns-clause-any_moment g c honest settled gate =
    let was = (g.D.Disk.view c.args.disk.now).content in
    let text = parts_text c.args.header.now c.args.snapshot.now in
    let enough : 2 ≤ c.args.sectors = omega (arith, c.requires.room) in
    let closed = c.in_ok-close_gate.ensures.written gate honest settled in
    let mid = g.D.Disk.view c.close_gate.new.disk in
    let there = c.close_gate.ensures.same.honest.1 honest in
    let written = c.in_ok-write_parts.ensures.written there closed.0.settled in
    let last = g.D.Disk.view c.write_parts.new.disk in
    let first =
    joined (c.close_gate.ensures.any_moment honest settled gate) (c.write_parts.ensures.any_moment there closed.0.settled)
    (IsSwitching c.args.base c.args.sectors c.args.was_open text was)
    (closing c.args.base c.args.sectors enough c.args.was_open text was)
    (writing c.args.base c.args.sectors enough c.args.was_open text was mid.content closed.0.differs closed.1) in
    joined first (c.write_gate.ensures.any_moment (c.write_parts.ensures.same.honest.1 there) written.0.settled)
    (IsSwitching c.args.base c.args.sectors c.args.was_open text was) (λ image is. is)
    (opening c.args.base c.args.sectors enough c.args.was_open text was mid.content closed.0.differs closed.1 last.content written.0.differs written.1)

pub returns-clause-written : goal.returns-clause-written
returns-clause-written g c gate honest settled =
    let was = (g.D.Disk.view c.args.disk.now).content in
    let text = parts_text c.args.header.now c.args.snapshot.now in
    let enough : 2 ≤ c.args.sectors = omega (arith, c.requires.room) in
    let closed = c.in_ok-close_gate.ensures.written gate honest settled in
    let mid = g.D.Disk.view c.close_gate.new.disk in
    let there = c.close_gate.ensures.same.honest.1 honest in
    let written = c.in_ok-write_parts.ensures.written there closed.0.settled in
    let last = g.D.Disk.view c.write_parts.new.disk in
    let new = g.D.Disk.view c.write_gate.new.disk in
    on_ok_weaker c.write_gate.result
    (λ done.
    let is = switched c.args.base c.args.sectors enough c.args.was_open text was mid.content closed.0.differs closed.1 last.content written.0.differs written.1
    new.content done.0.differs (ap is_open done.1) in
    (record { settled = done.0.settled; differs = is.differs }, is))
    (c.write_gate.ensures.written (c.write_parts.ensures.same.honest.1 there) written.0.settled)
