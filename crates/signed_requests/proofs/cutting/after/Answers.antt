use Rattle.std.proofs.Common.{◌==◌, ◌+◌, drop, sym, ap, ◌∙◌, arith}
use Rattle.std.proofs.lemmas.List.{take_rest, drop_all}
use Rattle.signed_requests.proofs.FirstPlace.{found, missed}
use Rattle.signed_requests.proofs.cutting.after.Goals as goal

pub returns-in-Some : goal.returns-in-Some
returns-in-Some c =
    let e = found (λ b. b == c.args.at) c.args.bytes.now c.in-Some.i (sym c.in-Some.ensures) in
    take_rest c.args.bytes.now (c.in-Some.i + 1) ∙ ap (λ n. drop (n + 1) c.args.bytes.now) (sym e)

pub returns-in-None : goal.returns-in-None
returns-in-None c =
    let e = missed (λ b. b == c.args.at) c.args.bytes.now (sym c.in-None.ensures) in
    sym (drop_all _ c.args.bytes.now (omega (arith, e)))
