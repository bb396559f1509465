use Rattle.std.proofs.Common.{◌≡◌, ◌*◌, ◌≤◌, ◌+◌, length, List, ℕ, replicate, slice_set, take, drop, false, refl, sym, ◌∙◌, subst, arith}
use Rattle.sector_disk.specs.Disk.{Holds}
use Rattle.sector_disk.specs.laws.Moments.{settles}
use Rattle.std.proofs.lemmas.Result.{on_ok_weaker}
use Rattle.gate_journal.specs.Frames.{is_open}
use Rattle.checkpoint.specs.Image.{sector_at}
use Rattle.checkpoint.specs.FormatSteps.{HoldsFirst, IsClosed}
use Rattle.checkpoint.proofs.Formatted.{first_written, both_closed, segment_there}
use Rattle.checkpoint.proofs.Stops.{gate_a_closed, gate_b_closed, any_of, segment_written, gate_a_opened}
use Rattle.checkpoint.proofs.formatting.write_first.Goals as goal

pub returns-in_err-write-clause-any_moment : goal.returns-in_err-write-clause-any_moment
returns-in_err-write-clause-any_moment g c honest =
    let view = g.D.Disk.view in
    let laws = g.met.D.Disk.laws in
    let disk = c.args.disk.now in
    let second = c.args.second in
    let segment = c.args.segment.now in
    let before = c.requires.before in
    let run_1 = gate_a_closed view laws disk honest second segment before c.write.new.self _ _ refl c.write.ensures.same c.write.ensures.honest in
    (any_of view laws disk honest second segment before run_1).leaves

pub returns-in_err-write-2-clause-any_moment : goal.returns-in_err-write-2-clause-any_moment
returns-in_err-write-2-clause-any_moment g c honest =
    let view = g.D.Disk.view in
    let laws = g.met.D.Disk.laws in
    let disk = c.args.disk.now in
    let second = c.args.second in
    let segment = c.args.segment.now in
    let before = c.requires.before in
    let run_1 = gate_a_closed view laws disk honest second segment before c.write.new.self _ _ refl c.write.ensures.same c.write.ensures.honest in
    let run_2 = gate_b_closed view laws disk honest second segment before c.write.new.self c.write-2.new.self _ _ refl run_1 c.write-2.ensures.same c.write-2.ensures.honest in
    (any_of view laws disk honest second segment before run_2).leaves

pub returns-in_err-barrier-clause-any_moment : goal.returns-in_err-barrier-clause-any_moment
returns-in_err-barrier-clause-any_moment g c honest =
    let view = g.D.Disk.view in
    let laws = g.met.D.Disk.laws in
    let disk = c.args.disk.now in
    let second = c.args.second in
    let segment = c.args.segment.now in
    let before = c.requires.before in
    let run_1 = gate_a_closed view laws disk honest second segment before c.write.new.self _ _ refl c.write.ensures.same c.write.ensures.honest in
    let run_2 = gate_b_closed view laws disk honest second segment before c.write.new.self c.write-2.new.self _ _ refl run_1 c.write-2.ensures.same c.write-2.ensures.honest in
    let run_3 = settles view laws (view disk) c.write-2.new.self c.barrier.new.self _ _ run_2 c.barrier.ensures.same c.barrier.ensures.honest in
    (any_of view laws disk honest second segment before run_3).leaves

pub returns-in_err-write-3-clause-any_moment : goal.returns-in_err-write-3-clause-any_moment
returns-in_err-write-3-clause-any_moment g c honest =
    let view = g.D.Disk.view in
    let laws = g.met.D.Disk.laws in
    let disk = c.args.disk.now in
    let second = c.args.second in
    let segment = c.args.segment.now in
    let before = c.requires.before in
    let run_1 = gate_a_closed view laws disk honest second segment before c.write.new.self _ _ refl c.write.ensures.same c.write.ensures.honest in
    let run_2 = gate_b_closed view laws disk honest second segment before c.write.new.self c.write-2.new.self _ _ refl run_1 c.write-2.ensures.same c.write-2.ensures.honest in
    let run_3 = settles view laws (view disk) c.write-2.new.self c.barrier.new.self _ _ run_2 c.barrier.ensures.same c.barrier.ensures.honest in
    let first = c.in_ok-barrier.ensures.honest run_2.honest in
    let inside : 512 * second + 512 ≤ length (view disk).content = omega (arith, (laws disk honest).size, c.requires.inside) in
    let closed = both_closed second (replicate 512 0) (view disk).content (view c.write.new.self).content (view c.write-2.new.self).content refl refl (omega (arith, before)) inside
    (c.in_ok-write.ensures.honest honest).content (c.in_ok-write-2.ensures.honest run_1.honest).content in
    let closed_3 = subst (IsClosed second) (sym first.content) closed in
    let sectors_3 = c.barrier.ensures.same.sectors ∙ c.write-2.ensures.same.sectors ∙ c.write.ensures.same.sectors in
    let run_4 = segment_written view laws disk honest second segment before c.barrier.new.self c.write-3.new.self first.done sectors_3
    (any_of view laws disk honest second segment before run_3) c.write-3.ensures.same _ closed_3 c.write-3.ensures.honest in
    run_4.leaves

pub returns-in_err-barrier-2-clause-any_moment : goal.returns-in_err-barrier-2-clause-any_moment
returns-in_err-barrier-2-clause-any_moment g c honest =
    let view = g.D.Disk.view in
    let laws = g.met.D.Disk.laws in
    let disk = c.args.disk.now in
    let second = c.args.second in
    let segment = c.args.segment.now in
    let before = c.requires.before in
    let run_1 = gate_a_closed view laws disk honest second segment before c.write.new.self _ _ refl c.write.ensures.same c.write.ensures.honest in
    let run_2 = gate_b_closed view laws disk honest second segment before c.write.new.self c.write-2.new.self _ _ refl run_1 c.write-2.ensures.same c.write-2.ensures.honest in
    let run_3 = settles view laws (view disk) c.write-2.new.self c.barrier.new.self _ _ run_2 c.barrier.ensures.same c.barrier.ensures.honest in
    let first = c.in_ok-barrier.ensures.honest run_2.honest in
    let inside : 512 * second + 512 ≤ length (view disk).content = omega (arith, (laws disk honest).size, c.requires.inside) in
    let closed = both_closed second (replicate 512 0) (view disk).content (view c.write.new.self).content (view c.write-2.new.self).content refl refl (omega (arith, before)) inside
    (c.in_ok-write.ensures.honest honest).content (c.in_ok-write-2.ensures.honest run_1.honest).content in
    let closed_3 = subst (IsClosed second) (sym first.content) closed in
    let sectors_3 = c.barrier.ensures.same.sectors ∙ c.write-2.ensures.same.sectors ∙ c.write.ensures.same.sectors in
    let run_4 = segment_written view laws disk honest second segment before c.barrier.new.self c.write-3.new.self first.done sectors_3
    (any_of view laws disk honest second segment before run_3) c.write-3.ensures.same _ closed_3 c.write-3.ensures.honest in
    let run_5 = settles view laws (view disk) c.write-3.new.self c.barrier-2.new.self _ _ run_4 c.barrier-2.ensures.same c.barrier-2.ensures.honest in
    run_5.leaves

pub returns-in_err-write-4-clause-any_moment : goal.returns-in_err-write-4-clause-any_moment
returns-in_err-write-4-clause-any_moment g c honest =
    let view = g.D.Disk.view in
    let laws = g.met.D.Disk.laws in
    let disk = c.args.disk.now in
    let second = c.args.second in
    let segment = c.args.segment.now in
    let before = c.requires.before in
    let run_1 = gate_a_closed view laws disk honest second segment before c.write.new.self _ _ refl c.write.ensures.same c.write.ensures.honest in
    let run_2 = gate_b_closed view laws disk honest second segment before c.write.new.self c.write-2.new.self _ _ refl run_1 c.write-2.ensures.same c.write-2.ensures.honest in
    let run_3 = settles view laws (view disk) c.write-2.new.self c.barrier.new.self _ _ run_2 c.barrier.ensures.same c.barrier.ensures.honest in
    let first = c.in_ok-barrier.ensures.honest run_2.honest in
    let inside : 512 * second + 512 ≤ length (view disk).content = omega (arith, (laws disk honest).size, c.requires.inside) in
    let closed = both_closed second (replicate 512 0) (view disk).content (view c.write.new.self).content (view c.write-2.new.self).content refl refl (omega (arith, before)) inside
    (c.in_ok-write.ensures.honest honest).content (c.in_ok-write-2.ensures.honest run_1.honest).content in
    let closed_3 = subst (IsClosed second) (sym first.content) closed in
    let sectors_3 = c.barrier.ensures.same.sectors ∙ c.write-2.ensures.same.sectors ∙ c.write.ensures.same.sectors in
    let run_4 = segment_written view laws disk honest second segment before c.barrier.new.self c.write-3.new.self first.done sectors_3
    (any_of view laws disk honest second segment before run_3) c.write-3.ensures.same _ closed_3 c.write-3.ensures.honest in
    let run_5 = settles view laws (view disk) c.write-3.new.self c.barrier-2.new.self _ _ run_4 c.barrier-2.ensures.same c.barrier-2.ensures.honest in
    let then = c.in_ok-barrier-2.ensures.honest run_4.honest in
    let within : 512 + length segment ≤ length (view c.barrier.new.self).content = omega (arith, run_3.disk.size, sectors_3, c.requires.inside, before) in
    let there = segment_there second segment (view c.barrier.new.self).content (view c.write-3.new.self).content before within closed_3 (c.in_ok-write-3.ensures.honest run_3.honest).content in
    let shut_5 = subst (λ (l : List ℕ). is_open (sector_at second l) ≡ false) (sym then.content) there.0 in
    let behind_5 = subst (λ (l : List ℕ). take (length segment) (drop 512 l) ≡ segment) (sym then.content) there.1 in
    let sectors_5 = c.barrier-2.ensures.same.sectors ∙ c.write-3.ensures.same.sectors ∙ sectors_3 in
    let run_6 = gate_a_opened view laws disk honest second segment before c.barrier-2.new.self c.write-4.new.self then.done sectors_5 run_5 c.write-4.ensures.same
    (slice_set (replicate 512 0) 0 1) _ refl shut_5 behind_5 c.write-4.ensures.honest in
    run_6.leaves

pub returns-clause-any_moment : goal.returns-clause-any_moment
returns-clause-any_moment g c honest =
    let view = g.D.Disk.view in
    let laws = g.met.D.Disk.laws in
    let disk = c.args.disk.now in
    let second = c.args.second in
    let segment = c.args.segment.now in
    let before = c.requires.before in
    let run_1 = gate_a_closed view laws disk honest second segment before c.write.new.self _ _ refl c.write.ensures.same c.write.ensures.honest in
    let run_2 = gate_b_closed view laws disk honest second segment before c.write.new.self c.write-2.new.self _ _ refl run_1 c.write-2.ensures.same c.write-2.ensures.honest in
    let run_3 = settles view laws (view disk) c.write-2.new.self c.barrier.new.self _ _ run_2 c.barrier.ensures.same c.barrier.ensures.honest in
    let first = c.in_ok-barrier.ensures.honest run_2.honest in
    let inside : 512 * second + 512 ≤ length (view disk).content = omega (arith, (laws disk honest).size, c.requires.inside) in
    let closed = both_closed second (replicate 512 0) (view disk).content (view c.write.new.self).content (view c.write-2.new.self).content refl refl (omega (arith, before)) inside
    (c.in_ok-write.ensures.honest honest).content (c.in_ok-write-2.ensures.honest run_1.honest).content in
    let closed_3 = subst (IsClosed second) (sym first.content) closed in
    let sectors_3 = c.barrier.ensures.same.sectors ∙ c.write-2.ensures.same.sectors ∙ c.write.ensures.same.sectors in
    let run_4 = segment_written view laws disk honest second segment before c.barrier.new.self c.write-3.new.self first.done sectors_3
    (any_of view laws disk honest second segment before run_3) c.write-3.ensures.same _ closed_3 c.write-3.ensures.honest in
    let run_5 = settles view laws (view disk) c.write-3.new.self c.barrier-2.new.self _ _ run_4 c.barrier-2.ensures.same c.barrier-2.ensures.honest in
    let then = c.in_ok-barrier-2.ensures.honest run_4.honest in
    let within : 512 + length segment ≤ length (view c.barrier.new.self).content = omega (arith, run_3.disk.size, sectors_3, c.requires.inside, before) in
    let there = segment_there second segment (view c.barrier.new.self).content (view c.write-3.new.self).content before within closed_3 (c.in_ok-write-3.ensures.honest run_3.honest).content in
    let shut_5 = subst (λ (l : List ℕ). is_open (sector_at second l) ≡ false) (sym then.content) there.0 in
    let behind_5 = subst (λ (l : List ℕ). take (length segment) (drop 512 l) ≡ segment) (sym then.content) there.1 in
    let sectors_5 = c.barrier-2.ensures.same.sectors ∙ c.write-3.ensures.same.sectors ∙ sectors_3 in
    let run_6 = gate_a_opened view laws disk honest second segment before c.barrier-2.new.self c.write-4.new.self then.done sectors_5 run_5 c.write-4.ensures.same
    (slice_set (replicate 512 0) 0 1) _ refl shut_5 behind_5 c.write-4.ensures.honest in
    let run_7 = settles view laws (view disk) c.write-4.new.self c.barrier-3.new.self _ _ run_6 c.barrier-3.ensures.same c.barrier-3.ensures.honest in
    run_7.leaves

pub returns-clause-written : goal.returns-clause-written
returns-clause-written g c honest =
    let view = g.D.Disk.view in
    let second = c.args.second in
    let segment = c.args.segment.now in
    let honest_1 = c.write.ensures.same.honest.1 honest in
    let honest_2 = c.write-2.ensures.same.honest.1 honest_1 in
    let honest_3 = c.barrier.ensures.same.honest.1 honest_2 in
    let honest_4 = c.write-3.ensures.same.honest.1 honest_3 in
    let honest_5 = c.barrier-2.ensures.same.honest.1 honest_4 in
    let honest_6 = c.write-4.ensures.same.honest.1 honest_5 in
    let first = (c.in_ok-barrier.ensures.honest honest_2).content in
    let then = (c.in_ok-barrier-2.ensures.honest honest_4).content in
    let last = c.barrier-3.ensures.honest honest_6 in
    let c1 = (view c.write.new.self).content in
    let c2 = (view c.write-2.new.self).content in
    let c4 = (view c.write-3.new.self).content in
    let c6 = (view c.write-4.new.self).content in
    let inside : 512 * second + 512 ≤ length c1 = omega (arith, (g.met.D.Disk.laws c.write.new.self honest_1).size, c.write.ensures.same.sectors, c.requires.inside) in
    let gate_b = (c.in_ok-write-2.ensures.honest honest_1).content in
    let body = subst (λ (l : List ℕ). Holds l 512 segment c4) first (c.in_ok-write-3.ensures.honest honest_3).content in
    let gate_a = subst (λ (l : List ℕ). Holds l 0 (slice_set (replicate 512 0) 0 1) c6) then (c.in_ok-write-4.ensures.honest honest_5).content in
    on_ok_weaker c.barrier-3.result
    (λ one. (one, subst (HoldsFirst second segment) (sym last.content) (first_written second segment (replicate 512 0) (slice_set (replicate 512 0) 0 1) c1 c2 c4 c6 refl refl refl refl c.requires.before inside gate_b body gate_a)))
    last.done
