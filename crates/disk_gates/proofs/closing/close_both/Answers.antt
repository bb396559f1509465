use Rattle.std.proofs.Common.{inl, inr, ◌∙◌, ap}
use Rattle.std.proofs.lemmas.Result.{on_ok_weaker}
use Rattle.sector_disk.specs.laws.Moments.{joined, leaves_weaker}
use Rattle.resized_disk.specs.Sectors.{is_open}
use Rattle.disk_gates.specs.Closing.{IsShutting}
use Rattle.disk_gates.proofs.Closings.{other_kept}
use Rattle.disk_gates.proofs.closing.close_both.Goals as goal

pub returns-in_err-close_gate-clause-moments : goal.returns-in_err-close_gate-clause-moments
returns-in_err-close_gate-clause-moments g c honest settled =
    leaves_weaker (IsShutting c.args.first c.args.second (g.D.Disk.view c.args.disk.now).content) (λ image is. inl is) (c.close_gate.ensures.moments honest settled)

pub returns-clause-moments : goal.returns-clause-moments
returns-clause-moments g c honest settled =
    let view = g.D.Disk.view in
    let done = c.in_ok-close_gate.ensures.closed honest settled in
    joined (c.close_gate.ensures.moments honest settled) (c.close_gate-2.ensures.moments (c.close_gate.ensures.same.honest.1 honest) done.2)
    (IsShutting c.args.first c.args.second (view c.args.disk.now).content) (λ image is. inl is)
    (λ image is. inr ((view c.close_gate.new.disk).content, done.1, done.0, is))

pub returns-clause-closed : goal.returns-clause-closed
returns-clause-closed g c honest settled apart =
    let view = g.D.Disk.view in
    let before = c.in_ok-close_gate.ensures.closed honest settled in
    on_ok_weaker c.close_gate-2.result
    (λ done. record {
      one = ap is_open (other_kept c.args.first c.args.second (view c.close_gate.new.disk).content (view c.close_gate-2.new.disk).content apart done.1) ∙ before.0;
      other = done.0;
      settled = done.2;
    })
    (c.close_gate-2.ensures.closed (c.close_gate.ensures.same.honest.1 honest) before.2)
