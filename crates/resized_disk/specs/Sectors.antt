-- The gates and the headers of segments, by the bytes of an image (docs/FORMATS.md, "The disk").
use Rattle.std.specs.Prelude.{ℕ, ◌*◌, ◌/◌, ◌==◌, nat_eq, Bool, ◌&&◌, ◌||◌, List, length, take, drop, codes, slice_index}
use Rattle.std.specs.List.{starts_with}
use Rattle.std.specs.Int.{w64, from_be_bytes}

-- the bytes of a sector of an image
abbrev pub sector_at : ℕ → List ℕ → List ℕ
sector_at sector image = take 512 (drop (512 * sector) image)

-- how many sectors an image has
abbrev pub sectors_of : List ℕ → ℕ
sectors_of image = length image / 512

-- where segment B begins
abbrev pub half : List ℕ → ℕ
half image = sectors_of image / 2

-- a gate is open by its first byte
abbrev pub is_open : List ℕ → Bool
is_open gate = slice_index gate 0 == 1

-- a header begins with these letters
abbrev pub has_letters : List ℕ → Bool
has_letters header = starts_with nat_eq header (codes "AINVOKE")

-- behind them stands its version
abbrev pub is_header : List ℕ → Bool
is_header header = has_letters header && ((slice_index header 7 == 1) || (slice_index header 7 == 2))

-- its generation
unfoldable pub generation : List ℕ → ℕ
generation header = from_be_bytes w64 (take 8 (drop 8 header))

-- how many bytes its snapshot has
unfoldable pub snapshot_size : List ℕ → ℕ
snapshot_size header = from_be_bytes w64 (take 8 (drop 16 header))
