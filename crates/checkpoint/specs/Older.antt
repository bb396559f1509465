-- The segment beside the live one, by the bytes of an image: its snapshot and the commands of its frames.
use Rattle.std.specs.Prelude.{◌≡◌, ℕ, ◌/◌, List, Option, None, Some, option_map, Result, Ok, Err, IfOk, IfErr, Vec}
use Rattle.std.specs.Global.{Global}
use Rattle.sector_disk.specs.Disk.{DiskView}
use Rattle.invoke_records.specs.declared.command.Command.{Command}
use Rattle.invoke_records.specs.declared.snapshot.Snapshot.{Snapshot}
use Rattle.checkpoint.specs.declared.header.Header.{Header}
use Rattle.checkpoint.specs.declared.error.OpenError.{OpenError}
use Rattle.checkpoint.specs.declared.opened.Opened.{Opened}
use Rattle.checkpoint.specs.Image.{SegmentImage, parts_of, open_header, segment_at, other_base}
use Rattle.checkpoint.specs.Live.{IsLive}
use Rattle.checkpoint.specs.Opening.{IsNoFinding}

-- the parts of a segment that was read, or what is wrong with it
abbrev pub read_parts : Result SegmentImage OpenError → Result (Option (Snapshot × List Command)) OpenError
read_parts (Err why) = Err why
read_parts (Ok segment) = Ok (Some (parts_of segment))

-- the parts of the segment with this header, none where its gate is closed
abbrev pub parts_behind : ℕ → ℕ → List ℕ → Result (Option Header) OpenError → Result (Option (Snapshot × List Command)) OpenError
parts_behind base sectors image (Err why) = Err why
parts_behind base sectors image (Ok None) = Ok None
parts_behind base sectors image (Ok (Some header)) = read_parts (segment_at base sectors header image)

-- the parts of the segment that begins at this sector and has so many, if its gate is open
abbrev pub parts_at : ℕ → ℕ → List ℕ → Result (Option (Snapshot × List Command)) OpenError
parts_at base sectors image = parts_behind base sectors image (open_header base sectors image)

-- the parts of the segment beside the one that was opened
abbrev pub older_parts : DiskView → Opened → Result (Option (Snapshot × List Command)) OpenError
older_parts disk opened = parts_at (other_base (disk.sectors / 2) opened.base) (disk.sectors / 2) disk.content

-- what is told of a segment
abbrev pub told_parts : Snapshot × Vec Command Global → Snapshot × List Command
told_parts told = (told.0, told.1.items)

-- where the disk is live with a table, the parts of its older segment are told, and no damage is found
abbrev pub IsOlderOf : DiskView → Opened → Snapshot → Result (Option (Snapshot × Vec Command Global)) OpenError → Type 0
IsOlderOf disk opened table result =
    (live : IsLive disk opened table)
    → IfOk result (λ told. option_map told_parts told ≡ option_map parts_of live.image.older) × IfErr result IsNoFinding
