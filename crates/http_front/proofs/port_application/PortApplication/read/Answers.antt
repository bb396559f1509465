use Rattle.std.proofs.Common.{rules, arith, inr}
use Rattle.std.proofs.lemmas.Grind.{common_steps}
use Rattle.http_front.proofs.port_application.PortApplication.read.Goals as goal

pub returns-in-Err-Refused-clause-err : goal.returns-in-Err-Refused-clause-err
returns-in-Err-Refused-clause-err g c =
    let said = rw c.in-Err-Refused.field-0-is at c.in-Err-Refused.ensures.call in
    inr (first_of (search rules, cc, grind (arith, common_steps)))
