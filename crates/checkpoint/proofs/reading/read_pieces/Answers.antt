use Rattle.std.proofs.Common.{◌≡◌, ℕ, ◌+◌, ◌-◌, ◌*◌, ◌/◌, ◌%◌, ◌≤◌, ◌++◌, List, length, take, drop, sym, ◌∙◌, ap, arith, length-drop}
use Rattle.std.proofs.lemmas.List.{drop-drop, length-take-le}
use Rattle.std.proofs.lemmas.Slice.{take-put_mid}
use Rattle.std.proofs.Math.Seq.{take-add}
use borrow.Rule.Slice.PartMut.{put_mid, same_len_mid}
use Rattle.checkpoint.proofs.Refusals.{reads_more}
use Rattle.checkpoint.proofs.Puts.{cause_more}
use Rattle.checkpoint.proofs.reading.read_pieces.Goals as goal

-- one more piece, read into its own place
module _ (bytes piece : List ℕ) (done size : ℕ) (within : done + size ≤ length bytes) (same : length piece ≡ length (take (done + size - done) (drop done bytes))) where
  abbrev now : List ℕ
  now = put_mid done (done + size - done) bytes piece

  now_size : length now ≡ length bytes
  now_size = same_len_mid done (done + size - done) bytes piece same

  lent : length (take (done + size - done) (drop done bytes)) ≡ size
  lent = length-take-le (done + size - done) (drop done bytes) (omega (arith, length-drop done bytes, within)) ∙ omega arith

  one_more : (content : List ℕ) (at : ℕ) → done % 512 ≡ 0 → take done bytes ≡ take done (drop (512 * at) content) → piece ≡ take (length (take (done + size - done) (drop done bytes))) (drop (512 * (at + done / 512)) content)
      → take (done + size) now ≡ take (done + size) (drop (512 * at) content)
  one_more content at whole before read =
      let place : 512 * (at + done / 512) ≡ 512 * at + done = omega (arith, whole) in
      let here : piece ≡ take size (drop done (drop (512 * at) content)) =
      read ∙ (λ i. take (lent i) (drop (place i) content)) ∙ ap (λ (l : List ℕ). take size l) (sym (drop-drop done (512 * at) content)) in
      take-put_mid done (done + size - done) bytes piece (done + size) (omega (arith, same, lent)) (omega (arith, within))
      ∙ (λ i. before i ++ here i) ∙ sym (take-add done size (drop (512 * at) content))

pub loop-done-preserved : goal.loop-done-preserved
loop-done-preserved g c =
    let bytes = c.loop-done.bytes in
    let done = c.loop-done.done in
    let size = c.min-size.result in
    let so_far = c.loop-done.invariant in
    let mid = so_far.reads in
    let least = c.min-size.ensures in
    let within : done + size ≤ length bytes = omega (arith, least, so_far.within) in
    record {
      within = omega (arith, within, now_size bytes c.read.new.out done size within c.read.auto.out);
      whole = omega (arith, least, so_far.whole, c.requires.whole.whole, c.loop-done.auto.bytes);
      reads = reads_more mid (record { same = c.in_ok-read.ensures.same; untouched = λ honest. (c.in_ok-read.ensures.honest honest).untouched });
      cause = cause_more _ so_far.cause c.in_ok-read.ensures.cause;
      read = λ honest.
          let now = mid.same.honest.1 honest in
          one_more bytes c.read.new.out done size within c.read.auto.out (g.D.Disk.view c.args.disk.now).content c.args.at so_far.whole (so_far.read honest)
          (rw (mid.untouched honest).content at (c.in_ok-read.ensures.honest now).bytes);
    }
