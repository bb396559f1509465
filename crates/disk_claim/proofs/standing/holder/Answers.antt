use Rattle.std.proofs.Common.{ℕ, ◌*◌, ◌≤◌, List, Option, take, drop, ◌∙◌, ap, arith}
use Rattle.std.proofs.lemmas.List.{take-take}
use Rattle.disk_claim.specs.Place.{claim_sector}
use Rattle.disk_claim.specs.Standing.{token_at}
use Rattle.disk_claim.proofs.standing.holder.Goals as goal

pub returns-clause-exact : goal.returns-clause-exact
returns-clause-exact g c honest =
    let content = (g.D.Disk.view c.args.disk.now).content in
    let short : 16 ≤ 512 = omega arith in
    let here : List ℕ = drop (512 * c.in-Some.sector) content in
    c.told_by.ensures ∙ ap (λ (l : List ℕ). take 16 l) ((c.in_ok-read.ensures.honest honest).bytes)
    ∙ take-take 16 512 here short
    ∙ ap (λ (o : Option ℕ). token_at o content) (c.in-Some.ensures.exact ∙ ap claim_sector c.sectors.ensures)
