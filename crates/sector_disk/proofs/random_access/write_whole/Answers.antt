use Rattle.std.proofs.Common.{arith}
use Rattle.sector_disk.proofs.Parts.{rest_fits, written_more, written_failed, written_whole}
use Rattle.sector_disk.proofs.random_access.write_whole.Goals as goal

pub returns-in_default-clause-honest : goal.returns-in_default-clause-honest
returns-in_default-clause-honest g c honest fits =
    let was = c.loop-done.invariant.written honest fits in
    let within = c.loop-done.invariant.within in
    written_failed _ within was (c.write_at.ensures.honest (c.loop-done.invariant.same.1 honest) (rest_fits fits within was))

pub returns-in_default-2-clause-honest : goal.returns-in_default-2-clause-honest
returns-in_default-2-clause-honest g c honest fits =
    let was = c.loop-done.invariant.written honest fits in
    let within = c.loop-done.invariant.within in
    written_failed _ within was (c.write_at.ensures.honest (c.loop-done.invariant.same.1 honest) (rest_fits fits within was))

pub loop-done-preserved : goal.loop-done-preserved
loop-done-preserved g c = record {
  within = omega (arith, c.in-Ok.ensures.bound);
  same = (λ honest. c.loop-done.invariant.same.0 (c.in-Ok.ensures.same.0 honest), λ honest. c.in-Ok.ensures.same.1 (c.loop-done.invariant.same.1 honest));
  written = λ honest fits.
      let was = c.loop-done.invariant.written honest fits in
      let within = c.loop-done.invariant.within in
      written_more fits within c.in-Ok.ensures.bound was (c.in-Ok.ensures.honest (c.loop-done.invariant.same.1 honest) (rest_fits fits within was));
}

pub returns-clause-honest : goal.returns-clause-honest
returns-clause-honest g c honest fits = written_whole c.loop-done-test.false (c.loop-done.invariant.written honest fits)
