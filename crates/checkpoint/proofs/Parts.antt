-- The parts of a segment, and what they are read from.
use Rattle.std.proofs.Common.{◌≡◌, inl, inr, ℕ, ◌+◌, ◌-◌, ◌*◌, ◌≤◌, Bool, true, false, nat_le, List, length, take, drop, Option, Some, None, Result, Ok, Err, refl, sym, ◌∙◌, ap, arith}
use Rattle.std.specs.Prelude.{◌&&◌, ◌==◌, if◌then◌else◌}
use Rattle.std.specs.Int.{w32, w64, from_be_bytes}
use Rattle.std.proofs.lemmas.List.{drop-drop}
use Rattle.std.proofs.lemmas.Bool.{cases_Bool, and_parts, leb-true}
use Rattle.sector_disk.specs.laws.Written.{same_part}
use Rattle.retry_rules.specs.declared.settings.Settings.{Settings}
use Rattle.retry_rules.specs.Settings.{policy_of}
use Rattle.invoke_records.specs.declared.snapshot.Snapshot.{Snapshot}
use Rattle.invoke_records.specs.declared.error.RecordError.{RecordError}
use Rattle.invoke_records.specs.Reading.{settings_at}
use Rattle.gate_journal.specs.declared.area.Area.{Area}
use Rattle.gate_journal.specs.Frames.{sectors_for, Frames, frames_in, frames_at}
use Rattle.checkpoint.specs.declared.header.Header.{Header}
use Rattle.checkpoint.specs.declared.error.OpenError.{OpenError}
use Rattle.invoke_records.specs.declared.version.Version.{Version}
use Rattle.checkpoint.specs.Image.{SegmentImage, are_zeros, most_snapshot_in, segment_sectors_in, allows, version_byte, version_named, header_at, header_with, header_in, snapshot_of, area_of, folded_in, segment_at, open_header}
use Rattle.checkpoint.specs.ReadSteps.{or_damaged, with_table, with_frames}
use Rattle.checkpoint.proofs.Segments.{snapshot_same}
use Rattle.checkpoint.proofs.Images.{is_open_at, behind_gate, shut_header, header_or_damage}

-- ## How a segment was read

damaged_ok : {A B : Type 0} (sector : ℕ) (found : Option A) (rest : A → Result B OpenError) (x : B) → or_damaged sector found rest ≡ Ok x → (y : A) × (found ≡ Some y) × (rest y ≡ Ok x)
damaged_ok sector None rest x is = absurd cc
damaged_ok sector (Some y) rest x is = (y, refl, is)

segment_is : (a b : SegmentImage) → ◌≡◌ {A = Result SegmentImage OpenError} (Ok a) (Ok b) → a ≡ b
segment_is a b is = cc

-- a segment of these parts
abbrev pub segment_of : ℕ → Header → Snapshot → Area → Frames → Snapshot → SegmentImage
segment_of base header snapshot area frames table = record {
  version = header.version;
  base = base;
  generation = header.generation;
  settings = header.settings;
  snapshot = snapshot;
  area = area;
  frames = frames;
  table = table;
}

table_ok : (base : ℕ) (header : Header) (snapshot : Snapshot) (area : Area) (frames : Frames) (read : Result Snapshot OpenError) (live : SegmentImage)
    → with_table base header snapshot area frames read ≡ Ok live → (table : Snapshot) × (read ≡ Ok table) × (segment_of base header snapshot area frames table ≡ live)
table_ok base header snapshot area frames (Err why) live is = absurd cc
table_ok base header snapshot area frames (Ok table) live is = (table, refl, segment_is (segment_of base header snapshot area frames table) live is)

frames_ok : (base : ℕ) (header : Header) (snapshot : Snapshot) (area : Area) (read : Result Frames ℕ) (live : SegmentImage) → with_frames base header snapshot area read ≡ Ok live
    → (frames : Frames) × (read ≡ Ok frames) × (with_table base header snapshot area frames (folded_in header.version header.settings snapshot frames.commands) ≡ Ok live)
frames_ok base header snapshot area (Err sector) live is = absurd cc
frames_ok base header snapshot area (Ok frames) live is = (frames, refl, is)

pub record Parts (base sectors : ℕ) (header : Header) (image : List ℕ) (live : SegmentImage) : Type 0 where
  pub snapshot : Snapshot
  pub frames : Frames
  pub table : Snapshot
  pub is_snapshot : snapshot_of header (drop (512 * (base + 2)) image) ≡ Some snapshot
  pub is_frames : frames_in (area_of base sectors header snapshot) image ≡ Ok frames
  pub is_folded : folded_in header.version header.settings snapshot frames.commands ≡ Ok table
  pub is_live : segment_of base header snapshot (area_of base sectors header snapshot) frames table ≡ live

pub parts : (base sectors : ℕ) (header : Header) (image : List ℕ) (live : SegmentImage) → segment_at base sectors header image ≡ Ok live → Parts base sectors header image live
unfolding segment_at
parts base sectors header image live is =
    let snapshot = damaged_ok (base + 2) (snapshot_of header (drop (512 * (base + 2)) image)) _ live is in
    let area = area_of base sectors header snapshot.0 in
    let frames = frames_ok base header snapshot.0 area (frames_in area image) live snapshot.2 in
    let table = table_ok base header snapshot.0 area frames.0 (folded_in header.version header.settings snapshot.0 frames.0.commands) live frames.2 in
    record {
      snapshot = snapshot.0;
      frames = frames.0;
      table = table.0;
      is_snapshot = snapshot.1;
      is_frames = frames.1;
      is_folded = table.1;
      is_live = table.2;
    }

-- ## The room that a header leaves

header_same : (a b : Header) → ◌≡◌ {A = Option Header} (Some a) (Some b) → a ≡ b
header_same a b is = cc

header_if : (good : Bool) (made header : Header) → (if good then Some made else None) ≡ Some header → (good ≡ true) × (made ≡ header)
header_if true made header is = (refl, header_same made header is)
header_if false made header is = absurd cc

some_if : (good : Bool) (found : Option Header) (header : Header) → (if good then found else None) ≡ Some header → found ≡ Some header
some_if true found header is = is
some_if false found header is = absurd cc

settings_room : (sectors : ℕ) (bytes : List ℕ) (read : Result (Settings × List ℕ) RecordError) (header : Header) → header_with sectors bytes read ≡ Some header → sectors_for header.size + 5 ≤ sectors
settings_room sectors bytes (Err e) header is = absurd cc
settings_room sectors bytes (Ok (s, rest)) header is =
    let told = (from_be_bytes w32 (take 4 (drop 24 bytes)) + length rest == 484) && are_zeros rest in
    let size = from_be_bytes w64 (take 8 (drop 16 bytes)) in
    let version : Version = version_named (version_byte bytes) (policy_of s) in
    let most = most_snapshot_in version s in
    let least = segment_sectors_in version s in
    let made : Header = record { version = version; generation = from_be_bytes w64 (take 8 (drop 8 bytes)); size = size; settings = s } in
    let all = header_if (told && nat_le size most && nat_le least sectors && allows version s) made header is in
    let both = and_parts (told && nat_le size most && nat_le least sectors) (allows version s) all.0 in
    let enough = and_parts (told && nat_le size most) (nat_le least sectors) both.0 in
    let small = and_parts told (nat_le size most) enough.0 in
    let same : size ≡ header.size = ap (λ (h : Header). h.size) all.1 in
    let size_most : size ≤ most = leb-true size most small.1 in
    let room : least ≤ sectors = leb-true least sectors enough.1 in
    omega (arith, size_most, room, same)

pub header_room : (sectors : ℕ) (bytes : List ℕ) (header : Header) → header_at sectors bytes ≡ Some header → sectors_for header.size + 5 ≤ sectors
unfolding header_at
header_room sectors bytes header is = settings_room sectors bytes (settings_at (drop 28 bytes)) header (some_if _ (header_with sectors bytes (settings_at (drop 28 bytes))) header is)

-- ## What agrees on a segment's sectors reads the same there

-- what agrees in a range agrees in each part of it
pub inner : (from m at j : ℕ) (a b : List ℕ) → take m (drop from a) ≡ take m (drop from b) → from ≤ at → at + j ≤ from + m → take j (drop at a) ≡ take j (drop at b)
inner from m at j a b same low high =
    let more : from + (at - from) ≡ at = omega (arith, low) in
    let a_is : drop at a ≡ drop (at - from) (drop from a) = ap (λ (n : ℕ). drop n a) (sym more) ∙ sym (drop-drop (at - from) from a) in
    let b_is : drop at b ≡ drop (at - from) (drop from b) = ap (λ (n : ℕ). drop n b) (sym more) ∙ sym (drop-drop (at - from) from b) in
    ap (λ (l : List ℕ). take j l) a_is ∙ same_part m (at - from) j (drop from a) (drop from b) same (omega (arith, low, high)) ∙ ap (λ (l : List ℕ). take j l) (sym b_is)

-- the sectors of a segment behind its gate
abbrev pub behind : ℕ → ℕ → List ℕ → List ℕ
behind base sectors image = take (512 * (sectors - 1)) (drop (512 * (base + 1)) image)

module _ (base sectors : ℕ) (enough : 2 ≤ sectors) (new old : List ℕ) (same : behind base sectors new ≡ behind base sectors old) where
  pub header_in_same : header_in (base + 1) sectors new ≡ header_in (base + 1) sectors old
  header_in_same = ap (header_at sectors) (inner (512 * (base + 1)) (512 * (sectors - 1)) (512 * (base + 1)) 512 new old same (omega arith) (omega (arith, enough)))

  pub open_header_same : is_open_at base new ≡ is_open_at base old → open_header base sectors new ≡ open_header base sectors old
  open_header_same gate = elim (cases_Bool (is_open_at base old)) [
    | inl opened ↦ behind_gate base sectors new (gate ∙ opened) ∙ ap (header_or_damage base) header_in_same ∙ sym (behind_gate base sectors old opened)
    | inr shut ↦ shut_header base sectors new (gate ∙ shut) ∙ sym (shut_header base sectors old shut)
  ]

  module _ (header : Header) (room : sectors_for header.size + 5 ≤ sectors) where
    snapshot_there : snapshot_of header (drop (512 * (base + 2)) new) ≡ snapshot_of header (drop (512 * (base + 2)) old)
    snapshot_there = snapshot_same header (drop (512 * (base + 2)) new) (drop (512 * (base + 2)) old)
        (inner (512 * (base + 1)) (512 * (sectors - 1)) (512 * (base + 2)) (512 * sectors_for header.size) new old same (omega arith) (omega (arith, room)))

    frames_there : (snapshot : Snapshot) → frames_in (area_of base sectors header snapshot) new ≡ frames_in (area_of base sectors header snapshot) old
    unfolding frames_in
    frames_there snapshot =
        let start = base + 2 + sectors_for header.size in
        ap (frames_at (base + sectors - start) header.generation (snapshot.number + 1) start)
        (inner (512 * (base + 1)) (512 * (sectors - 1)) (512 * start) (512 * (base + sectors - start)) new old same (omega arith) (omega (arith, room)))

    pub segment_same : segment_at base sectors header new ≡ segment_at base sectors header old
    unfolding segment_at
    segment_same = λ i. or_damaged (base + 2) (snapshot_there i) (λ snapshot. with_frames base header snapshot (area_of base sectors header snapshot) (frames_there snapshot i))
