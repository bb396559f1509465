-- In which order the gates of a disk are closed, and what a stop leaves meanwhile.
use Rattle.std.specs.Prelude.{◌≡◌, ◌⊎◌, ℕ, ◌+◌, ◌-◌, ◌*◌, ◌^◌, ◌≤◌, nat_lt, false, List, if◌then◌else◌}
use Rattle.sector_disk.specs.Disk.{DiskView, MayDiffer, HasOneImage}
use Rattle.resized_disk.specs.Sectors.{sector_at, half, is_open, has_letters, generation}

-- the generation of a header; of what is none, the greatest number
abbrev pub rank_of : List ℕ → ℕ
rank_of header = if has_letters header then generation header else 2 ^ 64 - 1

-- where the segment begins that is closed first, the older one, and where the other one does
abbrev pub order_in : List ℕ → ℕ × ℕ
order_in image =
    if nat_lt (rank_of (sector_at 1 image)) (rank_of (sector_at (half image + 1) image)) then (0, half image) else (half image, 0)

-- an image but for this sector
abbrev pub DiffersAt : ℕ → List ℕ → List ℕ → Type 0
DiffersAt sector was image = MayDiffer (512 * sector) 512 was image

-- while the gate at this sector is closed and then that one: the old bytes but for the first gate; or these with the first gate closed,
-- but for the second
abbrev pub IsShutting : ℕ → ℕ → List ℕ → List ℕ → Type 0
IsShutting first second was image =
    DiffersAt first was image
    ⊎ ((mid : List ℕ) × DiffersAt first was mid × (is_open (sector_at first mid) ≡ false) × DiffersAt second mid image)

-- while both gates of a disk are closed: an old image, or such a one of what a read gives
abbrev pub IsClosing : DiskView → List ℕ → Type 0
IsClosing old image = old.may_leave image ⊎ IsShutting (order_in old.content).0 (order_in old.content).1 old.content image

-- these sectors are not the same
abbrev pub AreApart : ℕ → ℕ → Type 0
AreApart first second = (first + 1 ≤ second) ⊎ (second + 1 ≤ first)

-- both gates are closed, and a stop leaves just that
pub record AreClosed (first second : ℕ) (disk : DiskView) : Type 0 where
  pub one : is_open (sector_at first disk.content) ≡ false
  pub other : is_open (sector_at second disk.content) ≡ false
  pub settled : HasOneImage disk

-- those of what stood on the disk are
abbrev pub HasClosed : List ℕ → DiskView → Type 0
HasClosed was disk = AreClosed (order_in was).0 (order_in was).1 disk
