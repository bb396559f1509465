-- Which disks are claimed.
use Rattle.std.specs.Prelude.{◌≡◌, ◌≢◌, ◌⊎◌, ℕ, nat_lt, Bool, true, false, ◌&&◌, ◌||◌, List, replicate}
use Rattle.resized_disk.specs.Sectors.{sector_at, sectors_of, half, is_open}
use Rattle.disk_claim.specs.Standing.{holder_in}

-- one of both gates is open
abbrev pub is_formatted : List ℕ → Bool
is_formatted image = nat_lt 5 (sectors_of image) && (is_open (sector_at 0 image) || is_open (sector_at (half image) image))

-- it is formatted, and a token of somebody stands in its claim
abbrev pub IsClaimed : List ℕ → Type 0
IsClaimed image = (is_formatted image ≡ true) × (holder_in (sectors_of image) image ≢ replicate 16 0)

-- it is not formatted, or nobody stands there
abbrev pub IsFree : List ℕ → Type 0
IsFree image = (is_formatted image ≡ false) ⊎ (holder_in (sectors_of image) image ≡ replicate 16 0)
