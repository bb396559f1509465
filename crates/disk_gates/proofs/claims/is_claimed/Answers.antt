use Rattle.std.proofs.Common.{◌≡◌, ℕ, ◌*◌, Bool, List, length, sym, ◌∙◌, ap, arith}
use Rattle.std.specs.Prelude.{not, IsTrue}
use Rattle.std.proofs.lemmas.Bool.{false≢true}
use Rattle.resized_disk.specs.Sectors.{sectors_of}
use Rattle.disk_claim.specs.Standing.{holder_in}
use Rattle.disk_gates.proofs.claims.is_claimed.Goals as goal

-- a test and its opposite do not both hold
both : (b : Bool) → IsTrue (not b) → IsTrue b → ⊥
both b is_not is = false≢true (sym (ap not is) ∙ is_not)

pub returns-in_ok-holder-clause-claimed : goal.returns-in_ok-holder-clause-claimed
returns-in_ok-holder-clause-claimed g c honest is_not =
    let old = g.D.Disk.view c.args.disk.now in
    let reads = c.is_formatted.ensures.reads in
    let size : length old.content ≡ 512 * old.sectors = (g.met.D.Disk.laws c.args.disk.now honest).size in
    let mid = g.D.Disk.view c.is_formatted.new.disk in
    let sectors : mid.sectors ≡ sectors_of old.content = omega (arith, size, reads.same.sectors) in
    let there =
    c.in_ok-holder.ensures.exact (reads.same.honest.1 honest) ∙ ap (λ (n : ℕ). holder_in n mid.content) sectors
    ∙ ap (λ (l : List ℕ). holder_in (sectors_of old.content) l) (reads.untouched honest).content in
    (sym (c.in_ok-is_formatted.ensures.exact honest) ∙ c.if-is_formatted.true, λ nobody. both c.is_nobody.result is_not (c.is_nobody.ensures.1 (there ∙ nobody)))
