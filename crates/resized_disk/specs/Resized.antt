-- What tells a disk that had another size when it was formatted.
use Rattle.std.specs.Prelude.{◌≡◌, ℕ, ◌+◌, ◌-◌, ◌*◌, ◌^◌, ◌<◌, ◌==◌, nat_eq, nat_lt, min, Bool, true, false, not, ◌&&◌, List, drop, Option, None, Some, if◌then◌else◌}
use Rattle.std.specs.Cmp.Lexicographic.{pointwise}
use Rattle.resized_disk.specs.declared.told.Resized.{Resized}
use Rattle.resized_disk.specs.declared.told.Resized.TheVariants.{Displaced, Cut}
use Rattle.resized_disk.specs.Sectors.{sector_at, sectors_of, half, is_open, is_header, generation}
use Rattle.resized_disk.specs.Frames.{area_end, frames_end}

-- ## The open segment

-- where the open segment begins, where just one of A and B is open and B begins in the middle
abbrev pub lone_base : ℕ → Bool → Bool → Option ℕ
lone_base half true false = Some 0
lone_base half false true = Some half
lone_base half true true = None
lone_base half false false = None

-- where the one open segment begins, on a disk that is large enough for two
abbrev pub lone_open : List ℕ → Option ℕ
lone_open image =
    if nat_lt (sectors_of image) 6 then None
    else lone_base (half image) (is_open (sector_at 0 image)) (is_open (sector_at (half image) image))

-- the segment that begins there, if it has a header
abbrev pub with_header : List ℕ → Option ℕ → Option ℕ
with_header image None = None
with_header image (Some base) = if is_header (sector_at (base + 1) image) then Some base else None

-- where the one open segment begins, if it has a header
abbrev pub lone_segment : List ℕ → Option ℕ
lone_segment image = with_header image (lone_open image)

-- ## A displaced one

-- the header of the segment that a switch makes, beside the segment with this header: one generation on, the same settings
abbrev pub follows : List ℕ → List ℕ → Bool
follows header next =
    is_header next && ((generation next == generation header + 1) && pointwise nat_eq (drop 24 next) (drop 24 header))

-- such a header stands behind an open gate at this sector
unfoldable pub leads_on : List ℕ → ℕ → List ℕ → Bool
leads_on header sector image = is_open (sector_at sector image) && follows header (sector_at (sector + 1) image)

-- neither segment A nor segment B begins at this sector
abbrev pub is_elsewhere : ℕ → ℕ → Bool
is_elsewhere half sector = not (sector == 0) && not (sector == half)

-- beside the segment that begins at `base` its newer one stands at this sector: behind the frames, whose bytes may be any, and
-- where neither A nor B begins
abbrev pub stands_beside : Option ℕ → ℕ → List ℕ → Bool
stands_beside None sector image = false
stands_beside (Some base) sector image =
    nat_lt (frames_end base image) sector
    && (nat_lt (sector + 1) (sectors_of image) && (is_elsewhere (half image) sector && leads_on (sector_at (base + 1) image) sector image))

-- the newer segment stands displaced at this sector
unfoldable pub stands_displaced : ℕ → List ℕ → Bool
stands_displaced sector image = stands_beside (lone_segment image) sector image

-- ## A cut one

-- the frames of the segment that begins at `base` end at this sector, within its area, where no frame has room, and yet its gate is open
abbrev pub ends_open : Option ℕ → ℕ → List ℕ → Bool
ends_open None sector image = false
ends_open (Some base) sector image =
    (sector == frames_end base image)
    && (nat_lt sector (area_end base image) && (nat_lt (area_end base image) (sector + 3) && is_open (sector_at sector image)))

-- the one open segment is cut at this sector
unfoldable pub is_cut_at : ℕ → List ℕ → Bool
is_cut_at sector image = ends_open (lone_segment image) sector image

-- ## What is told

-- no segment stands displaced
abbrev pub NoneDisplaced : List ℕ → Type 0
NoneDisplaced image = (sector : ℕ) → stands_displaced sector image ≡ false

-- a segment stands displaced, and before it none: the disk was formatted with twice as many sectors, as far as a count goes, or one
-- more; or none does, and the open segment is cut at this sector; or neither
abbrev pub TellsResized : List ℕ → Option Resized → Type 0
TellsResized image (Some (Displaced sectors)) =
    (sector : ℕ) × (sectors ≡ min (2 * sector) (2 ^ 64 - 1)) × (stands_displaced sector image ≡ true)
    × ((earlier : ℕ) → earlier < sector → stands_displaced earlier image ≡ false)
TellsResized image (Some (Cut sector)) = NoneDisplaced image × (is_cut_at sector image ≡ true)
TellsResized image None = NoneDisplaced image × ((sector : ℕ) → is_cut_at sector image ≡ false)
