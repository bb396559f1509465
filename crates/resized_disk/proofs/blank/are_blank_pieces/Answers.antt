use Rattle.std.proofs.Common.{◌≡◌, ℕ, ◌+◌, ◌*◌, length, take, drop, sym, ◌∙◌, ap, arith}
use Rattle.std.proofs.lemmas.List.{length-take-le}
use Rattle.resized_disk.specs.Blank.{is_blank}
use Rattle.resized_disk.proofs.Calls.{reads_more, cause_ok}
use Rattle.resized_disk.proofs.Zeros.{blank_more, not_blank}
use Rattle.resized_disk.proofs.blank.are_blank_pieces.Goals as goal

pub returns-then-not-branch-clause-exact : goal.returns-then-not-branch-clause-exact
returns-then-not-branch-clause-exact g c honest =
    let so_far = c.loop-at.invariant in
    let count = c.sectors_from-count.result in
    let content = (g.D.Disk.view c.args.disk.now).content in
    let now = so_far.reads.same.honest.1 honest in
    let mid = (so_far.reads.untouched honest).content in
    let size : length (take (count * 512) c.loop-at.buffer) ≡ count * 512 = omega (arith, length-take-le (count * 512) c.loop-at.buffer (omega (arith, c.sectors_from-count.ensures, c.loop-at.auto.buffer, c.requires.room))) in
    let here = c.in_ok-is_blank_piece.ensures.exact now in
    let piece = (λ i. is_blank (take (sym size i) (drop (512 * c.loop-at.at) (sym mid i)))) ∙ sym here ∙ c.if-not-branch.true in
    sym (not_blank (512 * c.loop-at.at) (count * 512) content (so_far.blank honest) piece)

pub loop-at-preserved : goal.loop-at-preserved
loop-at-preserved g c =
    let so_far = c.loop-at.invariant in
    let at = c.loop-at.at in
    let count = c.sectors_from-count.result in
    let content = (g.D.Disk.view c.args.disk.now).content in
    record {
      low = omega (arith, c.sectors_from-count.ensures, c.loop-at-test.true, so_far.low);
      reads = reads_more so_far.reads c.in_ok-is_blank_piece.ensures.reads;
      cause = cause_ok _ so_far.cause c.in_ok-is_blank_piece.ensures.cause;
      blank = λ honest.
          let now = so_far.reads.same.honest.1 honest in
          let mid = (so_far.reads.untouched honest).content in
          let size : length (take (count * 512) c.loop-at.buffer) ≡ count * 512 = omega (arith, length-take-le (count * 512) c.loop-at.buffer (omega (arith, c.sectors_from-count.ensures, c.loop-at.auto.buffer, c.requires.room))) in
          let here = c.in_ok-is_blank_piece.ensures.exact now in
          let piece = (λ i. is_blank (take (sym size i) (drop (512 * at) (sym mid i)))) ∙ sym here ∙ c.if-not-branch.false in
          let next : 512 * at + count * 512 ≡ 512 * (at + count) = omega arith in
          ap (λ (n : ℕ). is_blank (take n content)) (sym next) ∙ blank_more (512 * at) (count * 512) content (so_far.blank honest) piece;
    }
