-- What the private steps of formatting a disk leave. No public contract cites it.
use Rattle.std.specs.Prelude.{◌≡◌, ◌⊎◌, ℕ, ◌*◌, true, false, List, length, take, drop}
use Rattle.sector_disk.specs.Disk.{DiskView, HasOneImage}
use Rattle.sector_disk.specs.Moments.{LeavesOnly}
use Rattle.gate_journal.specs.Frames.{is_open}
use Rattle.checkpoint.specs.Image.{sector_at}
use Rattle.checkpoint.specs.Formatting.{IsOldButForGates}

-- these bytes stand behind the open gate of segment A, and the gate of segment B, which begins at this sector, is closed
pub record HoldsFirst (second : ℕ) (segment image : List ℕ) : Type 0 where
  pub gate_a : is_open (sector_at 0 image) ≡ true
  pub gate_b : is_open (sector_at second image) ≡ false
  pub behind : take (length segment) (drop 512 image) ≡ segment

-- the disk has one image, and that holds these bytes
abbrev pub IsFirst : DiskView → ℕ → List ℕ → Type 0
IsFirst disk second segment = HasOneImage disk × HoldsFirst second segment disk.content

-- neither gate is open
pub record IsClosed (second : ℕ) (image : List ℕ) : Type 0 where
  pub gate_a : is_open (sector_at 0 image) ≡ false
  pub gate_b : is_open (sector_at second image) ≡ false

-- while this segment is made the live one: the old image but for its gates, one without an open gate, or one that holds the segment
abbrev pub IsBeingFormatted : DiskView → ℕ → List ℕ → List ℕ → Type 0
IsBeingFormatted old second segment image =
    IsOldButForGates old second image ⊎ ((length image ≡ 512 * old.sectors) × (IsClosed second image ⊎ HoldsFirst second segment image))

-- what a stop leaves at any moment while an honest disk's segment A is made the live one
abbrev pub LeavesFirst : DiskView → DiskView → ℕ → List ℕ → Type 0
LeavesFirst old new second segment = old.honest → LeavesOnly old new (IsBeingFormatted old second segment)
