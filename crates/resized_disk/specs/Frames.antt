-- Where the frames of a segment end, by their gates and lengths alone (docs/FORMATS.md, "The disk").
use Rattle.std.specs.Prelude.{ℕ, zero, suc, ◌+◌, ◌/◌, nat_le, min, Bool, ◌&&◌, List, take, drop, if◌then◌else◌}
use Rattle.std.specs.Int.{w32, from_be_bytes}
use Rattle.resized_disk.specs.Sectors.{sector_at, sectors_of, half, is_open, snapshot_size}

-- how many sectors so many bytes fill
abbrev pub sectors_for : ℕ → ℕ
sectors_for size = (size + 511) / 512

-- how many bytes the commands of a body fill, by its first sector
unfoldable pub commands_size : List ℕ → ℕ
commands_size head = from_be_bytes w32 (take 4 (drop 20 head))

-- how many sectors the frame of this body takes: its gate, and the body
abbrev pub frame_sectors : List ℕ → ℕ
frame_sectors head = 1 + sectors_for (32 + commands_size head)

-- a frame begins at this gate of an area that ends at `end`: the gate is open, and at least 3 sectors are left from it on
abbrev pub goes_on : ℕ → ℕ → List ℕ → Bool
goes_on end gate image = nat_le (gate + 3) end && is_open (sector_at gate image)

-- the gate behind that frame, or the area's end where it would lie behind that
abbrev pub next_gate : ℕ → ℕ → List ℕ → ℕ
next_gate end gate image = min (gate + frame_sectors (sector_at (gate + 1) image)) end

-- the sector at which the frames end that begin at this gate, of so many frames at most
unfoldable pub end_from : ℕ → ℕ → ℕ → List ℕ → ℕ
end_from zero end gate image = gate
end_from (suc n) end gate image = if goes_on end gate image then end_from n end (next_gate end gate image) image else gate

-- where the area of a segment ends that begins at `base`
abbrev pub area_end : ℕ → List ℕ → ℕ
area_end base image = base + half image

-- its first gate, behind the segment's gate, the header and the snapshot
abbrev pub first_gate : ℕ → List ℕ → ℕ
first_gate base image = min (base + 2 + sectors_for (snapshot_size (sector_at (base + 1) image))) (area_end base image)

-- the sector at which the frames of that segment end: there are fewer of them than sectors
unfoldable pub frames_end : ℕ → List ℕ → ℕ
frames_end base image = end_from (sectors_of image) (area_end base image) (first_gate base image) image
