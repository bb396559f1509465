use Rattle.std.proofs.Common.{◌==◌, take, sym, ap, arith}
use Rattle.std.proofs.lemmas.List.{take_all}
use Rattle.signed_requests.proofs.FirstPlace.{found, missed}
use Rattle.signed_requests.proofs.cutting.before.Goals as goal

pub returns-in-Some : goal.returns-in-Some
returns-in-Some c =
    let e = found (λ b. b == c.args.at) c.args.bytes.now c.in-Some.i (sym c.in-Some.ensures) in
    ap (λ n. take n c.args.bytes.now) (omega (arith, e))

pub returns-in-None : goal.returns-in-None
returns-in-None c = sym (take_all _ c.args.bytes.now (missed (λ b. b == c.args.at) c.args.bytes.now (sym c.in-None.ensures)))
