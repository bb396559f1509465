use Rattle.std.proofs.Common.{◌≡◌, ◌≤◌, ℕ, length, take, drop, sym, ◌∙◌, arith, ap}
use Rattle.std.proofs.lemmas.List.{take_all}
use Rattle.sector_disk.proofs.Parts.{unchanged_more, read_more}
use Rattle.sector_disk.proofs.random_access.read_whole.Goals as goal

pub returns-in_default-clause-honest : goal.returns-in_default-clause-honest
returns-in_default-clause-honest g c honest sectors =
    let call = c.read_at.ensures.honest (c.loop-done.invariant.same.1 honest) in
    record { bytes = tt; untouched = unchanged_more (c.loop-done.invariant.read honest).unchanged call.unchanged sectors }

pub returns-in_default-2-clause-honest : goal.returns-in_default-2-clause-honest
returns-in_default-2-clause-honest g c honest sectors =
    let call = c.read_at.ensures.honest (c.loop-done.invariant.same.1 honest) in
    record { bytes = tt; untouched = unchanged_more (c.loop-done.invariant.read honest).unchanged call.unchanged sectors }

pub loop-done-preserved : goal.loop-done-preserved
loop-done-preserved g c = record {
  within = omega (arith, c.in-Ok.ensures.bound);
  same = (λ honest. c.loop-done.invariant.same.0 (c.in-Ok.ensures.same.0 honest), λ honest. c.in-Ok.ensures.same.1 (c.loop-done.invariant.same.1 honest));
  read = λ honest.
      let enough : c.in-Ok.count ≤ length c.read_at.new.out = omega (arith, c.in-Ok.ensures.bound) in
      read_more _ c.loop-done.out c.read_at.new.out c.loop-done.invariant.within enough (c.loop-done.invariant.read honest)
      (c.in-Ok.ensures.honest (c.loop-done.invariant.same.1 honest));
}

pub returns-clause-honest : goal.returns-clause-honest
returns-clause-honest g c honest sectors =
    let read = c.loop-done.invariant.read honest in
    let size : length c.args.out.now ≡ c.loop-done.done = omega arith in
    record {
      bytes = sym (take_all c.loop-done.done c.loop-done.out (omega arith)) ∙ read.bytes
          ∙ ap (λ (n : ℕ). take n (drop c.args.at (g.F.RandomAccessFile.view c.args.file.now).content)) (sym size);
      untouched = read.unchanged sectors;
    }
