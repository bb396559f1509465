use Rattle.std.proofs.Common.{◌≡◌, ◌*◌, length, inl, arith}
use Rattle.std.proofs.lemmas.Result.{on_ok_weaker}
use Rattle.sector_disk.specs.laws.Moments.{joined}
use Rattle.checkpoint.specs.Pieces.{parts_text}
use Rattle.checkpoint.specs.SeedSteps.{IsBeingSeeded}
use Rattle.checkpoint.proofs.Seeds.{being_written, first_there}
use Rattle.checkpoint.proofs.seeding.write_alone.Goals as goal

pub returns-clause-any_moment : goal.returns-clause-any_moment
returns-clause-any_moment g c honest =
    let old = g.D.Disk.view c.args.disk.now in
    let mid = g.D.Disk.view c.shut_both.new.disk in
    let there = c.shut_both.ensures.same.honest.1 honest in
    let closed = c.in_ok-shut_both.ensures.closed honest in
    let size : length mid.content ≡ 512 * old.sectors = omega (arith, (g.met.D.Disk.laws c.shut_both.new.disk there).size, c.shut_both.ensures.same.sectors) in
    let text = parts_text c.args.header.now c.args.snapshot.now in
    joined (c.shut_both.ensures.any_moment honest) (c.write_live.ensures.any_moment there closed.0 closed.1.gate_a) (IsBeingSeeded old c.args.second text) (λ image is. inl is)
    (being_written c.args.second text mid.content closed.1 old size)

pub returns-clause-written : goal.returns-clause-written
returns-clause-written g c honest =
    let mid = g.D.Disk.view c.shut_both.new.disk in
    let closed = c.in_ok-shut_both.ensures.closed honest in
    let text = parts_text c.args.header.now c.args.snapshot.now in
    on_ok_weaker c.write_live.result
    (λ done. (done.0.settled, first_there c.args.second text mid.content closed.1 (g.D.Disk.view c.write_live.new.disk).content done.1))
    (c.write_live.ensures.written closed.1.gate_a (c.shut_both.ensures.same.honest.1 honest) closed.0)
