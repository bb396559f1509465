use Rattle.std.proofs.Common.{◌≡◌, ℕ, ◌+◌, ◌-◌, ◌*◌, ◌^◌, List, Option, None, Some, min, sym, ◌∙◌, ap, subst, arith}
use Rattle.std.proofs.lemmas.Result.{IfOk-weaker}
use Rattle.resized_disk.specs.declared.told.Resized.TheVariants.{Displaced}
use Rattle.resized_disk.specs.Frames.{frames_end}
use Rattle.resized_disk.specs.Resized.{NoneDisplaced, TellsResized}
use Rattle.resized_disk.specs.Pieces.{passes, TellsFirst, TellsCut}
use Rattle.resized_disk.proofs.Found.{found_none, found_one, cut_tells}
use Rattle.resized_disk.proofs.resizing.judge_beside.Goals as goal

-- what was found on a disk that is as it was
found_before : (header old mid : List ℕ) (from sectors later : ℕ) (found : Option ℕ) → mid ≡ old → later ≡ sectors
    → TellsFirst (passes header mid) from (later - 1) found → TellsFirst (passes header old) from (sectors - 1) found
found_before header old mid from sectors later found same size told =
    subst (λ (n : ℕ). TellsFirst (passes header old) from (n - 1) found) size
    (subst (λ (l : List ℕ). TellsFirst (passes header l) from (later - 1) found) same told)

pub returns-in-Some-clause-exact : goal.returns-in-Some-clause-exact
returns-in-Some-clause-exact g c honest there header_is =
    let old = g.D.Disk.view c.args.disk.now in
    let walk = c.frames_end.ensures.reads in
    let end = c.in_ok-end.end in
    let header = c.args.header.now in
    let sector = c.in-Some.sector in
    let found = c.in_ok-sector.ensures.exact (walk.same.honest.1 honest) in
    let told : TellsFirst (passes header old.content) (end + 1) (old.sectors - 1) (Some sector) =
    subst (TellsFirst (passes header old.content) (end + 1) (old.sectors - 1)) c.in-Some.is
    (found_before header old.content _ (end + 1) old.sectors _ c.in_ok-sector.field-0 (walk.untouched honest).content walk.same.sectors found) in
    let tells = found_one old.content header c.args.base end there header_is (c.in_ok-end.ensures.exact honest header_is) old.sectors (g.met.D.Disk.laws c.args.disk.now honest).size sector told in
    let twice : c.saturating_mul.result ≡ min (2 * sector) (2 ^ 64 - 1) = omega (arith, c.saturating_mul.ensures) in
    subst (λ (n : ℕ). TellsResized old.content (Some (Displaced n))) (sym twice) tells

pub returns-in-None-clause-exact : goal.returns-in-None-clause-exact
returns-in-None-clause-exact g c honest there header_is =
    let old = g.D.Disk.view c.args.disk.now in
    let walk = c.frames_end.ensures.reads in
    let seen = c.search.ensures.reads in
    let end = c.in_ok-end.end in
    let header = c.args.header.now in
    let honest_1 = walk.same.honest.1 honest in
    let content_1 = (walk.untouched honest).content in
    let content_2 = (seen.untouched honest_1).content ∙ content_1 in
    let end_is = c.in_ok-end.ensures.exact honest header_is in
    let found = c.in_ok-sector.ensures.exact honest_1 in
    let told : TellsFirst (passes header old.content) (end + 1) (old.sectors - 1) None =
    subst (TellsFirst (passes header old.content) (end + 1) (old.sectors - 1)) c.in-None.is
    (found_before header old.content _ (end + 1) old.sectors _ c.in_ok-sector.field-0 content_1 walk.same.sectors found) in
    let none : NoneDisplaced old.content = found_none old.content header c.args.base end there header_is end_is old.sectors (g.met.D.Disk.laws c.args.disk.now honest).size told in
    let cut = c.cut_at.ensures.exact (seen.same.honest.1 honest_1) (end_is ∙ ap (frames_end c.args.base) (sym content_2)) in
    IfOk-weaker c.cut_at.result (TellsCut c.args.base (g.D.Disk.view c.search.new.disk).content) (TellsResized old.content)
    (λ told tells. cut_tells old.content c.args.base there none told (subst (λ (l : List ℕ). TellsCut c.args.base l told) content_2 tells))
    cut
