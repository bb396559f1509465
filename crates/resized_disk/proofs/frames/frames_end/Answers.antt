use Rattle.std.proofs.Common.{◌≡◌, ℕ, ◌+◌, ◌*◌, ◌/◌, List, length, min, ◌∙◌, ap, arith}
use Rattle.std.proofs.lemmas.Result.{IfOk-weaker}
use Rattle.resized_disk.specs.Sectors.{sector_at, sectors_of, snapshot_size}
use Rattle.resized_disk.specs.Frames.{sectors_for, area_end, first_gate, end_from, frames_end}
use Rattle.resized_disk.proofs.frames.frames_end.Goals as goal

-- the walk over the area of a segment
whole_walk : (image header : List ℕ) (base sectors end gate at : ℕ) → length image ≡ 512 * sectors → header ≡ sector_at (base + 1) image
    → end ≡ base + sectors / 2 → gate ≡ min (base + 2 + sectors_for (snapshot_size header)) end → at ≡ end_from sectors end gate image → at ≡ frames_end base image
unfolding frames_end
whole_walk image header base sectors end gate at size header_is end_is gate_is walked =
    let all : sectors ≡ sectors_of image = omega (arith, size) in
    let last : end ≡ area_end base image = end_is ∙ ap (λ (n : ℕ). base + n / 2) all in
    let first : gate ≡ first_gate base image = gate_is ∙ (λ i. min (base + 2 + sectors_for (snapshot_size (header_is i))) (last i)) in
    walked ∙ (λ i. end_from (all i) (last i) (first i) image)

pub returns-clause-exact : goal.returns-clause-exact
returns-clause-exact g c honest header_is =
    let old = g.D.Disk.view c.args.disk.now in
    let end = c.args.base + c.sectors.result / 2 in
    IfOk-weaker c.end_from.result (λ at. at ≡ end_from old.sectors end c.first_gate.result old.content) (λ at. at ≡ frames_end c.args.base old.content)
    (λ at walked. whole_walk old.content c.args.header.now c.args.base old.sectors end c.first_gate.result at (g.met.D.Disk.laws c.args.disk.now honest).size header_is
    (ap (λ (n : ℕ). c.args.base + n / 2) c.sectors.ensures) c.first_gate.ensures walked)
    (c.end_from.ensures.exact honest)
