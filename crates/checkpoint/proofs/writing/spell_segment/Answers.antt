use Rattle.std.proofs.Common.{◌≡◌, ◌++◌, ℕ, List, length, replicate, ◌∙◌, ap, arith, append_assoc}
use Rattle.invoke_records.specs.Spelling.{snapshot_text}
use Rattle.gate_journal.specs.Frames.{padded}
use Rattle.checkpoint.specs.Image.{header_text}
use Rattle.checkpoint.proofs.writing.spell_segment.Goals as goal

pub returns : goal.returns
returns c =
    let text = snapshot_text c.args.snapshot.now in
    let size : c.len.result ≡ length text = omega (arith, c.len.ensures, ap (λ (l : List ℕ). length l) c.in-Ok.ensures.ok) in
    let header = c.in_ok-bytes.ensures ∙ ap (λ (n : ℕ). header_text c.args.generation n c.args.settings.now) size in
    let snapshot = c.deref.ensures.value ∙ c.in_ok-pad.ensures ∙ ap padded c.in-Ok.ensures.ok in
    c.in_ok-extend_from_slice-2.ensures.items
    ∙ ap (λ (l : List ℕ). l ++ replicate 512 0) (c.in_ok-extend_from_slice.ensures.items ∙ (λ i. header i ++ snapshot i))
    ∙ append_assoc (header_text c.args.generation (length text) c.args.settings.now) (padded text) (replicate 512 0)
