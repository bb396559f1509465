use Rattle.std.proofs.Common.{◌+◌, ◌*◌, ◌≤◌, length, sym, ◌∙◌, ap, subst, arith}
use Rattle.std.proofs.lemmas.Result.{on_ok_weaker}
use Rattle.checkpoint.specs.Image.{sector_at}
use Rattle.checkpoint.specs.Pieces.{DiffersWithin}
use Rattle.checkpoint.proofs.Rewrites.{gate_written}
use Rattle.checkpoint.proofs.switching.write_gate.Goals as goal

pub returns-clause-written : goal.returns-clause-written
returns-clause-written g c honest settled =
    let old = g.D.Disk.view c.args.disk.now in
    let sector = c.args.sector in
    let gate = c.args.gate.now in
    let inside : 512 * sector + 512 ≤ length old.content = omega (arith, (g.met.D.Disk.laws c.args.disk.now honest).size, c.requires) in
    let barrier = c.barrier.ensures.honest (c.write.ensures.same.honest.1 honest) in
    let is = gate_written sector gate old.content _ (omega (arith, c.told-gate)) inside (c.in_ok-write.ensures.honest honest).content in
    on_ok_weaker c.barrier.result
    (λ done. (
      record { settled = done; differs = subst (DiffersWithin sector (sector + 1) old.content) (sym barrier.content) is.0 },
      ap (sector_at sector) barrier.content ∙ is.1,
    ))
    barrier.done
