use Rattle.std.proofs.Common.{ap, length, arith}
use Rattle.sector_disk.proofs.file.FileDisk.over.Goals as goal

pub invariant_of-result-clause-whole : goal.invariant_of-result-clause-whole
invariant_of-result-clause-whole g c honest =
    let told = c.in_ok-size.ensures.honest (c.in_ok-size.ensures.same.0 honest) in
    omega (arith, told.size, ap length (told.unchanged 0).content, c.if-size-ne0.false)

pub returns-clause-opened : goal.returns-clause-opened
returns-clause-opened g c honest =
    let told = c.in_ok-size.ensures.honest honest in
    record {
      honest = c.in_ok-size.ensures.same.1 honest;
      sectors = omega (arith, told.size, c.if-size-ne0.false);
      untouched = told.unchanged _;
    }
