-- What the private steps over parts of a disk give. No public contract cites it.
use Rattle.std.specs.Prelude.{◌≡◌, ℕ, ◌+◌, ◌*◌, ◌<◌, ◌≤◌, Bool, true, false, ◌&&◌, List, length, take, drop, Option, None, Some, if◌then◌else◌}
use Rattle.resized_disk.specs.declared.told.Resized.{Resized}
use Rattle.resized_disk.specs.declared.told.Resized.TheVariants.{Displaced, Cut}
use Rattle.resized_disk.specs.Sectors.{sector_at, half, is_open}
use Rattle.resized_disk.specs.Frames.{frame_sectors}
use Rattle.resized_disk.specs.Resized.{is_elsewhere, leads_on, ends_open}

-- at this place of a piece, whose first sector is `at`, stands a displaced segment
unfoldable pub is_found : List ℕ → ℕ → ℕ → ℕ → List ℕ → Bool
is_found header half at place piece = is_elsewhere half (at + place) && leads_on header place piece

-- the least number from `from` to before `to` that passes, or none where none does
abbrev pub TellsFirst : (ℕ → Bool) → ℕ → ℕ → Option ℕ → Type 0
TellsFirst passes from to None = (n : ℕ) → from ≤ n → n < to → passes n ≡ false
TellsFirst passes from to (Some found) =
    (from ≤ found) × (found < to) × (passes found ≡ true) × ((n : ℕ) → from ≤ n → n < found → passes n ≡ false)

-- beside the segment with this header a displaced one stands at this sector
unfoldable pub passes : List ℕ → List ℕ → ℕ → Bool
passes header image sector = is_elsewhere (half image) sector && leads_on header sector image

-- the first sector at which one stands, of those from this one on to before that one
abbrev pub TellsNext : List ℕ → ℕ → ℕ → List ℕ → Option ℕ → Type 0
TellsNext header from to image = TellsFirst (passes header image) from to

-- the bytes of a piece that begins at this sector
abbrev pub IsPiece : List ℕ → ℕ → List ℕ → Type 0
IsPiece image at piece = piece ≡ take (length piece) (drop (512 * at) image)

-- how many sectors the frame takes whose gate is at this sector, where that is open
abbrev pub frame_at : ℕ → List ℕ → Option ℕ
frame_at gate image = if is_open (sector_at gate image) then Some (frame_sectors (sector_at (gate + 1) image)) else None

-- where the segment is cut that begins at `base`
abbrev pub TellsCut : ℕ → List ℕ → Option Resized → Type 0
TellsCut base image (Some (Displaced sectors)) = ⊥
TellsCut base image (Some (Cut sector)) = ends_open (Some base) sector image ≡ true
TellsCut base image None = (sector : ℕ) → ends_open (Some base) sector image ≡ false
