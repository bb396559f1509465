-- Which disks are of a later version of the format than this program knows.
use Rattle.std.specs.Prelude.{ℕ, ◌+◌, nat_lt, Bool, ◌&&◌, ◌||◌, List, slice_index}
use Rattle.resized_disk.specs.Sectors.{sector_at, sectors_of, half, is_open, has_letters}

-- a header of a later version than 2
abbrev pub is_newer : List ℕ → Bool
is_newer header = has_letters header && nat_lt 2 (slice_index header 7)

-- the segment that begins at this sector is open, and of a later version
abbrev pub is_newer_at : ℕ → List ℕ → Bool
is_newer_at base image = is_open (sector_at base image) && is_newer (sector_at (base + 1) image)

-- one of both segments is
abbrev pub is_newer_disk : List ℕ → Bool
is_newer_disk image = nat_lt 5 (sectors_of image) && (is_newer_at 0 image || is_newer_at (half image) image)
