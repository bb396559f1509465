-- An image whose live segment is one that a switch wrote, by its bytes.
use Rattle.std.specs.Prelude.{◌≡◌, ◌⊎◌, ℕ, ◌+◌, ◌*◌, ◌/◌, ◌^◌, ◌<◌, ◌≤◌, true, false, List, length, Some, None, Ok}
use Rattle.retry_rules.specs.declared.settings.Settings.{Settings}
use Rattle.retry_rules.specs.Settings.{bad_field}
use Rattle.invoke_records.specs.declared.snapshot.Snapshot.{Snapshot}
use Rattle.invoke_records.specs.Spelling.{IsSnapshot}
use Rattle.gate_journal.specs.Frames.{is_open}
use Rattle.checkpoint.specs.declared.header.Header.{Header}
use Rattle.checkpoint.specs.Image.{SegmentImage, least_sectors, half, sector_at, header_in, segment_at, segment_text, HasGeneration}
use Rattle.checkpoint.specs.Live.{RecoversTo, may_stand}
use Rattle.checkpoint.specs.Pieces.{StandsFrom}

-- one segment begins at the first place and the other one at the second
abbrev pub AreSides : ℕ → ℕ → ℕ → Type 0
AreSides half base other = ((base ≡ 0) × (other ≡ half)) ⊎ ((base ≡ half) × (other ≡ 0))

-- the segment of so many sectors that begins at this one is open and read whole, and its generation is below this one
pub record IsOlder (base sectors generation : ℕ) (image : List ℕ) : Type 0 where
  pub gate : is_open (sector_at base image) ≡ true
  pub header : Header
  pub header_reads : header_in (base + 1) sectors image ≡ Some header
  pub below : header.generation < generation
  pub segment : SegmentImage
  pub segment_reads : segment_at base sectors header image ≡ Ok segment

-- behind an open gate stands what a switch with these settings and this snapshot writes, and the other segment is closed or older
pub record HoldsSegment (generation : ℕ) (s : Settings) (snapshot : Snapshot) (base other : ℕ) (image : List ℕ) : Type 0 where
  pub good : bad_field s ≡ None
  pub spelled : IsSnapshot snapshot
  pub stands : may_stand s snapshot ≡ true
  pub low : 1 ≤ generation
  pub high : generation ≤ 2 ^ 62
  pub sectors : ℕ
  pub size : length image ≡ 512 * sectors
  pub room : least_sectors s ≤ sectors
  pub sides : AreSides (sectors / 2) base other
  pub gate : is_open (sector_at base image) ≡ true
  pub behind : StandsFrom (base + 1) (segment_text generation s snapshot) image
  pub beside : (is_open (sector_at other image) ≡ false) ⊎ IsOlder other (sectors / 2) generation image

-- such an image recovers to the snapshot, under its settings and in its generation
abbrev pub IsRecoveredAsWritten : ℕ → Settings → Snapshot → ℕ → ℕ → List ℕ → Type 0
IsRecoveredAsWritten generation s snapshot base other image =
    HoldsSegment generation s snapshot base other image → RecoversTo s snapshot image × HasGeneration generation image
