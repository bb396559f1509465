-- The steps of reading a segment.
use Rattle.std.proofs.Common.{◌≡◌, ℕ, ◌+◌, ◌*◌, ◌≤◌, List, take, drop, Some, None, Result, Err, sym, ◌∙◌, ap, arith}
use Rattle.std.proofs.lemmas.List.{take-take}
use Rattle.invoke_records.specs.declared.snapshot.Snapshot.{Snapshot}
use Rattle.invoke_records.specs.Reading.{whole_at}
use Rattle.gate_journal.specs.Frames.{sectors_for, Frames, frames_in}
use Rattle.checkpoint.specs.declared.header.Header.{Header}
use Rattle.checkpoint.specs.declared.error.OpenError.TheVariants.{Damaged}
use Rattle.checkpoint.specs.Image.{within_limits, snapshot_of, area_of, segment_at}
use Rattle.checkpoint.specs.ReadSteps.{or_damaged, with_frames}

-- a snapshot is read from its sectors alone
pub snapshot_front : (header : Header) (bytes : List ℕ) → snapshot_of header (take (512 * sectors_for header.size) bytes) ≡ snapshot_of header bytes
unfolding snapshot_of
snapshot_front header bytes =
    let room : header.size ≤ 512 * sectors_for header.size = omega arith in
    ap (λ (l : List ℕ). within_limits header.settings (whole_at header.version l)) (take-take header.size (512 * sectors_for header.size) bytes room)

-- and so from what agrees there
pub snapshot_same : (header : Header) (a b : List ℕ) → take (512 * sectors_for header.size) a ≡ take (512 * sectors_for header.size) b → snapshot_of header a ≡ snapshot_of header b
snapshot_same header a b same = sym (snapshot_front header a) ∙ ap (snapshot_of header) same ∙ snapshot_front header b

module _ (base sectors : ℕ) (header : Header) (image : List ℕ) where
  pub no_snapshot : snapshot_of header (drop (512 * (base + 2)) image) ≡ None → segment_at base sectors header image ≡ Err (Damaged (base + 2))
  unfolding segment_at
  no_snapshot none = λ i. or_damaged (base + 2) (none i) (λ snapshot.
      with_frames base header snapshot (area_of base sectors header snapshot) (frames_in (area_of base sectors header snapshot) image))

  pub behind_snapshot : (snapshot : Snapshot) (read : Result Frames ℕ) → snapshot_of header (drop (512 * (base + 2)) image) ≡ Some snapshot
      → frames_in (area_of base sectors header snapshot) image ≡ read
      → segment_at base sectors header image ≡ with_frames base header snapshot (area_of base sectors header snapshot) read
  unfolding segment_at
  behind_snapshot snapshot read some frames = (λ i. or_damaged (base + 2) (some i) (λ snapshot.
      with_frames base header snapshot (area_of base sectors header snapshot) (frames_in (area_of base sectors header snapshot) image)))
      ∙ ap (with_frames base header snapshot (area_of base sectors header snapshot)) frames
