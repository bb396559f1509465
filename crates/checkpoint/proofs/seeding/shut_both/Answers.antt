use Rattle.std.proofs.Common.{inl, List, ℕ, subst}
use Rattle.std.proofs.lemmas.Result.{on_ok_weaker}
use Rattle.sector_disk.specs.laws.Moments.{started, settles, joined}
use Rattle.checkpoint.specs.Pieces.{DiffersWithin}
use Rattle.checkpoint.specs.SeedSteps.{IsClosing}
use Rattle.checkpoint.proofs.Seeds.{Shutting, first_closing, second_closing, both_shut}
use Rattle.checkpoint.proofs.seeding.shut_both.Goals as goal

pub returns-in_err-shut_gate-clause-any_moment : goal.returns-in_err-shut_gate-clause-any_moment
returns-in_err-shut_gate-clause-any_moment g c honest =
    let view = g.D.Disk.view in
    let laws = g.met.D.Disk.laws in
    let disk = c.args.disk.now in
    let old = view disk in
    let second = c.args.second in
    let run =
    settles view laws old disk c.barrier.new.self (IsClosing old second) _ (started view laws disk (IsClosing old second) honest (λ image left. inl (inl left))) c.barrier.ensures.same
    c.barrier.ensures.honest in
    let settled = c.in_ok-barrier.ensures.honest honest in
    joined run.leaves (c.shut_gate.ensures.any_moment run.honest settled.done) (IsClosing old second) (λ image is. is)
    (λ image is. first_closing old (laws disk honest) second c.requires.behind image (subst (λ (l : List ℕ). Shutting 0 l image) settled.content is))

pub returns-clause-any_moment : goal.returns-clause-any_moment
returns-clause-any_moment g c honest =
    let view = g.D.Disk.view in
    let laws = g.met.D.Disk.laws in
    let disk = c.args.disk.now in
    let old = view disk in
    let second = c.args.second in
    let run =
    settles view laws old disk c.barrier.new.self (IsClosing old second) _ (started view laws disk (IsClosing old second) honest (λ image left. inl (inl left))) c.barrier.ensures.same
    c.barrier.ensures.honest in
    let settled = c.in_ok-barrier.ensures.honest honest in
    let first =
    joined run.leaves (c.shut_gate.ensures.any_moment run.honest settled.done) (IsClosing old second) (λ image is. is)
    (λ image is. first_closing old (laws disk honest) second c.requires.behind image (subst (λ (l : List ℕ). Shutting 0 l image) settled.content is)) in
    let mid = view c.shut_gate.new.disk in
    let shut = c.in_ok-shut_gate.ensures.written run.honest settled.done in
    let one = subst (λ (l : List ℕ). DiffersWithin 0 1 l mid.content) settled.content shut.0.differs in
    joined first (c.shut_gate-2.ensures.any_moment (c.shut_gate.ensures.same.honest.1 run.honest) shut.0.settled) (IsClosing old second) (λ image is. is)
    (second_closing old (laws disk honest) second c.requires.behind mid.content one shut.1)

pub returns-clause-closed : goal.returns-clause-closed
returns-clause-closed g c honest =
    let view = g.D.Disk.view in
    let disk = c.args.disk.now in
    let there = c.barrier.ensures.same.honest.1 honest in
    let settled = c.in_ok-barrier.ensures.honest honest in
    let mid = view c.shut_gate.new.disk in
    let shut = c.in_ok-shut_gate.ensures.written there settled.done in
    let one = subst (λ (l : List ℕ). DiffersWithin 0 1 l mid.content) settled.content shut.0.differs in
    on_ok_weaker c.shut_gate-2.result
    (λ done. (
      done.0.settled,
      both_shut (view disk) (g.met.D.Disk.laws disk honest) c.args.second c.requires.behind mid.content one shut.1 (view c.shut_gate-2.new.disk).content done.0.differs done.1,
    ))
    (c.shut_gate-2.ensures.written (c.shut_gate.ensures.same.honest.1 there) shut.0.settled)
