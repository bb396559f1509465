-- What is read of a segment that was spelled and stands behind its gate.
use Rattle.std.proofs.Common.{◌≡◌, ℕ, ◌+◌, ◌*◌, ◌^◌, ◌<◌, ◌≤◌, true, List, ◌++◌, length, take, drop, replicate, Some, None, Ok, refl, sym, ◌∙◌, ap, arith, append_assoc, length-append, take-append-drop}
use Rattle.std.proofs.lemmas.List.{take_at, drop_at, drop-drop}
use Rattle.retry_rules.specs.declared.settings.Settings.{Settings}
use Rattle.retry_rules.specs.Settings.{bad_field}
use Rattle.invoke_records.specs.declared.snapshot.Snapshot.{Snapshot}
use Rattle.invoke_records.specs.Spelling.{snapshot_text}
use Rattle.invoke_records.specs.declared.version.Version.TheVariants.{Two}
use Rattle.invoke_records.specs.Reading.{whole_at}
use Rattle.gate_journal.specs.declared.area.Area.{Area}
use Rattle.gate_journal.specs.Frames.{is_open, sectors_for, padded, frames_in, no_frames}
use Rattle.checkpoint.specs.declared.header.Header.{Header}
use Rattle.async_core.specs.Limits.{most_snapshot, is_within}
use Rattle.checkpoint.specs.Image.{SegmentImage, segment_sectors, sector_at, header_in, header_text, segment_text, snapshot_of, area_of, segment_at}
use Rattle.checkpoint.proofs.Segments.{behind_snapshot}
use Rattle.checkpoint.proofs.Parts.{segment_of}
use Rattle.checkpoint.proofs.Spelled.{length-padded, regrouped, header_size, header_again, snapshot_there, no_frames_there}

module _ (generation : ℕ) (s : Settings) (good : bad_field s ≡ None) (snapshot : Snapshot) where
  abbrev text : List ℕ
  text = snapshot_text snapshot

  abbrev pub segment : List ℕ
  segment = segment_text generation s snapshot

  -- how long a spelled segment is
  pub segment_size : length segment ≡ 1024 + 512 * sectors_for (length text)
  segment_size =
      length-append (header_text generation (length text) s) (padded text ++ replicate 512 0)
      ∙ omega (arith, header_size generation (length text) s good, length-append (padded text) (replicate 512 0), length-padded text)

  abbrev pub header : Header
  header = record { version = Two; generation = generation; size = length text; settings = s }

  module _ (low : 1 ≤ generation) (high : generation ≤ 2 ^ 62) (small : length text ≤ most_snapshot s) (below : length text < 2 ^ 64)
      (again : whole_at Two text ≡ Ok snapshot) (within : is_within s snapshot ≡ true) (base sectors : ℕ) (room : segment_sectors s ≤ sectors) (image : List ℕ)
      (holds : take (length segment) (drop (512 * (base + 1)) image) ≡ segment) where
    abbrev rest : List ℕ
    rest = replicate 512 0 ++ drop (length segment) (drop (512 * (base + 1)) image)

    behind_gate : drop (512 * (base + 1)) image ≡ header_text generation (length text) s ++ (padded text ++ rest)
    behind_gate =
        let far = drop (length segment) (drop (512 * (base + 1)) image) in
        sym (take-append-drop (length segment) (drop (512 * (base + 1)) image)) ∙ ap (λ (l : List ℕ). l ++ far) holds
        ∙ append_assoc (header_text generation (length text) s) (padded text ++ replicate 512 0) far
        ∙ ap (λ (l : List ℕ). header_text generation (length text) s ++ l) (append_assoc (padded text) (replicate 512 0) far)

    is_header : sector_at (base + 1) image ≡ header_text generation (length text) s
    is_header = ap (λ (l : List ℕ). take 512 l) behind_gate ∙ take_at (header_text generation (length text) s) (padded text ++ rest) 512 (header_size generation (length text) s good)

    behind_header : drop (512 * (base + 2)) image ≡ padded text ++ rest
    behind_header =
        let place : 512 * (base + 2) ≡ 512 * (base + 1) + 512 = omega arith in
        ap (λ (n : ℕ). drop n image) place ∙ sym (drop-drop 512 (512 * (base + 1)) image) ∙ ap (λ (l : List ℕ). drop 512 l) behind_gate
        ∙ drop_at (header_text generation (length text) s) (padded text ++ rest) 512 (header_size generation (length text) s good)

    behind_text : drop (512 * (base + 2 + sectors_for (length text))) image ≡ rest
    behind_text =
        let k = sectors_for (length text) in
        let place : 512 * (base + 2 + k) ≡ 512 * (base + 2) + 512 * k = omega arith in
        ap (λ (n : ℕ). drop n image) place ∙ sym (drop-drop (512 * k) (512 * (base + 2)) image) ∙ ap (λ (l : List ℕ). drop (512 * k) l) behind_header
        ∙ drop_at (padded text) rest (512 * k) (length-padded text)

    pub header_found : header_in (base + 1) sectors image ≡ Some header
    header_found = header_again generation (length text) s good low high (sector_at (base + 1) image) (is_header ∙ regrouped generation (length text) s) sectors small below room

    abbrev pub area : Area
    area = area_of base sectors header snapshot

    pub no_frames_yet : frames_in area image ≡ Ok (no_frames area.number area.start)
    no_frames_yet = no_frames_there area image (ap is_open behind_text)

    -- it is the snapshot, without frames
    abbrev pub placed : SegmentImage
    placed = segment_of base header snapshot area (no_frames area.number area.start) snapshot

    pub segment_found : segment_at base sectors header image ≡ Ok placed
    segment_found =
        let some = ap (λ (l : List ℕ). snapshot_of header l) behind_header ∙ snapshot_there header snapshot rest refl refl again within in
        behind_snapshot base sectors header image snapshot (Ok (no_frames area.number area.start)) some no_frames_yet
