-- What an image of a disk reads to, in either version of the format, and what it recovers to: by its bytes.
use Rattle.std.specs.Prelude.{◌≡◌, ℕ, ◌+◌, ◌*◌, ◌/◌, ◌^◌, ◌==◌, nat_le, nat_lt, nat_eq, Bool, true, false, not, ◌&&◌, ◌||◌, List, [], ◌∷◌, ◌++◌, length, take, drop, replicate, codes, slice_index, Option, Some, None, is_none, ok_or, Result, Ok, Err, if◌then◌else◌, map}
use Rattle.std.specs.Result.{IsOkAnd}
use Rattle.std.specs.List.{list_all, starts_with}
use Rattle.std.specs.Int.{w32, w64, to_be_bytes, from_be_bytes}
use Rattle.retry_rules.specs.declared.policy.RetryPolicy.{RetryPolicy}
use Rattle.retry_rules.specs.declared.settings.Settings.{Settings}
use Rattle.retry_rules.specs.Settings.{policy_of}
use Rattle.invoke_records.specs.declared.command.Command.{Command}
use Rattle.invoke_records.specs.declared.snapshot.Snapshot.{Snapshot}
use Rattle.invoke_records.specs.declared.version.Version.{Version}
use Rattle.invoke_records.specs.declared.version.Version.TheVariants.{One, Two}
use Rattle.invoke_records.specs.declared.error.RecordError.{RecordError}
use Rattle.invoke_records.specs.Spelling.{settings_text, snapshot_text}
use Rattle.invoke_records.specs.Reading.{settings_at, whole_at}
use Rattle.invoke_records.specs.Versions.{is_old, most_payload, row_front, snapshot_front, has_kind}
use Rattle.async_core.specs.State.{State}
use Rattle.async_core.specs.Rules.{refusal_at, table_after}
use Rattle.async_core.specs.Limits.{most_snapshot, is_within}
use Rattle.gate_journal.specs.declared.area.Area.{Area}
use Rattle.gate_journal.specs.Frames.{is_open, sectors_for, padded, Frames, frames_in}
use Rattle.checkpoint.specs.declared.header.Header.{Header}
use Rattle.checkpoint.specs.declared.choosing.Found.{Found}
use Rattle.checkpoint.specs.declared.error.OpenError.{OpenError}
use Rattle.checkpoint.specs.declared.error.OpenError.TheVariants.{NotFormatted, Damaged, OldVersion}

infixl 10 ◌>>=◌
-- the rest of a reading, where what comes first went well; else what is wrong there
abbrev pub ◌>>=◌ : {A B : Type 0} → Result A OpenError → (A → Result B OpenError) → Result B OpenError
(Ok x) >>= rest = rest x
(Err why) >>= rest = Err why

-- ## Sizes

-- how many sectors a segment has at least that is written: its gate, its header, the greatest snapshot, and room for one frame
abbrev pub segment_sectors : Settings → ℕ
segment_sectors s = 2 + sectors_for (most_snapshot s) + 3

-- how many sectors a disk has at least
abbrev pub least_sectors : Settings → ℕ
least_sectors s = 2 * segment_sectors s

-- the greatest length of a snapshot of this version
abbrev pub most_snapshot_in : Version → Settings → ℕ
most_snapshot_in version s = snapshot_front version + s.events * (row_front version + s.payload + s.response)

-- how many sectors a segment of this version has at least
abbrev pub segment_sectors_in : Version → Settings → ℕ
segment_sectors_in version s = 2 + sectors_for (most_snapshot_in version s) + 3

-- version 1 has no settings that let a payload be longer than it allows
abbrev pub allows : Version → Settings → Bool
allows (One policy) s = nat_le s.payload (most_payload (One policy))
allows Two s = true

-- the bytes of a sector of an image
abbrev pub sector_at : ℕ → List ℕ → List ℕ
sector_at sector image = take 512 (drop (512 * sector) image)

-- ## The header

-- what a header begins with
abbrev pub letters : List ℕ
letters = codes "AINVOKE"

-- the byte behind them, which names the version
abbrev pub version_byte : List ℕ → ℕ
version_byte bytes = slice_index bytes 7

-- there are two
abbrev pub is_version : ℕ → Bool
is_version byte = (byte == 1) || (byte == 2)

-- the version that such a byte names: rows and snapshots of version 1 are given this retry policy
abbrev pub version_named : ℕ → RetryPolicy → Version
version_named byte policy = if byte == 1 then One policy else Two

-- the letters and version 2, as they are written
abbrev pub magic : List ℕ
magic = codes "AINVOKE" ++ (2 ∷ [])

-- magic 8, generation 8, snapshot length 8, settings length 4, settings
abbrev pub header_front : ℕ → ℕ → Settings → List ℕ
header_front generation size s =
    magic ++ (to_be_bytes w64 generation ++ (to_be_bytes w64 size ++ (to_be_bytes w32 (length (settings_text s)) ++ settings_text s)))

-- a header, which fills a sector
unfoldable pub header_text : ℕ → ℕ → Settings → List ℕ
header_text generation size s = padded (header_front generation size s)

abbrev pub are_zeros : List ℕ → Bool
are_zeros bytes = list_all (λ b. b == 0) bytes

-- the header of this version with these settings, of which these bytes are left, if a segment of so many sectors is large
-- enough for them
abbrev pub header_of : ℕ → List ℕ → Settings → List ℕ → Version → Option Header
header_of sectors bytes s rest version =
    if (from_be_bytes w32 (take 4 (drop 24 bytes)) + length rest == 484) && are_zeros rest
    && nat_le (from_be_bytes w64 (take 8 (drop 16 bytes))) (most_snapshot_in version s) && nat_le (segment_sectors_in version s) sectors
    && allows version s
    then Some (record {
      version = version;
      generation = from_be_bytes w64 (take 8 (drop 8 bytes));
      size = from_be_bytes w64 (take 8 (drop 16 bytes));
      settings = s;
    })
    else None

-- the header with the settings that were read, in the version that its byte names
abbrev pub header_with : ℕ → List ℕ → Result (Settings × List ℕ) RecordError → Option Header
header_with sectors bytes (Err e) = None
header_with sectors bytes (Ok (s, rest)) = header_of sectors bytes s rest (version_named (version_byte bytes) (policy_of s))

-- the header that this sector is, in a segment of so many sectors, if it is one
unfoldable pub header_at : ℕ → List ℕ → Option Header
header_at sectors bytes =
    if starts_with nat_eq bytes letters && is_version (version_byte bytes)
    && nat_le 1 (from_be_bytes w64 (take 8 (drop 8 bytes))) && nat_le (from_be_bytes w64 (take 8 (drop 8 bytes))) (2 ^ 62)
    then header_with sectors bytes (settings_at (drop 28 bytes))
    else None

-- ## The snapshot

-- the snapshot that was read, where it is within the settings' limits
abbrev pub within_limits : Settings → Result Snapshot RecordError → Option Snapshot
within_limits s (Err e) = None
within_limits s (Ok snapshot) = if is_within s snapshot then Some snapshot else None

-- the snapshot at the front of these bytes that the header speaks of, in its version
unfoldable pub snapshot_of : Header → List ℕ → Option Snapshot
snapshot_of header bytes = within_limits header.settings (whole_at header.version (take header.size bytes))

-- ## A segment

-- a segment behind its gate, without frames: its header, its snapshot, a closed gate
abbrev pub segment_text : ℕ → Settings → Snapshot → List ℕ
segment_text generation s snapshot =
    header_text generation (length (snapshot_text snapshot)) s ++ (padded (snapshot_text snapshot) ++ replicate 512 0)

-- the table after these commands, each behind its gate; where one is not legal after those before it, damage at its gate
abbrev pub folded : Settings → Snapshot → List (ℕ × Command) → Result Snapshot OpenError
folded s table [] = Ok table
folded s table ((gate, command) ∷ later) =
    if is_none (refusal_at s table command) then folded s (table_after s table command) later else Err (Damaged gate)

-- each command is of a kind that this version has; else the gate of the first that is not is damaged
abbrev pub kinds_in : Version → List (ℕ × Command) → Result (Unit {0}) OpenError
kinds_in version [] = Ok tt
kinds_in version ((gate, command) ∷ later) = if has_kind version command.kind then kinds_in version later else Err (Damaged gate)

-- the table after the commands of a segment of this version
abbrev pub folded_in : Version → Settings → Snapshot → List (ℕ × Command) → Result Snapshot OpenError
folded_in version s table commands = do
  known ← kinds_in version commands
  folded s table commands

-- what a segment holds: its version, where it begins, its snapshot, its frames, and the table after their commands
pub record SegmentImage : Type 0 where
  pub version : Version
  pub base : ℕ
  pub generation : ℕ
  pub settings : Settings
  pub snapshot : Snapshot
  pub area : Area
  pub frames : Frames
  pub table : Snapshot

-- the snapshot of a segment and the commands of its frames
abbrev pub parts_of : SegmentImage → Snapshot × List Command
parts_of segment = (segment.snapshot, map (λ c. c.1) segment.frames.commands)

-- the journal's area in the segment that begins at this sector and has so many
abbrev pub area_of : ℕ → ℕ → Header → Snapshot → Area
area_of base sectors header snapshot = record {
  generation = header.generation;
  number = snapshot.number + 1;
  start = base + 2 + sectors_for header.size;
  end = base + sectors;
}

-- the snapshot from this sector of an image on, of which the header speaks
abbrev pub snapshot_in : ℕ → Header → List ℕ → Option Snapshot
snapshot_in sector header image = snapshot_of header (drop (512 * sector) image)

-- what was read, or damage at the sector that is told
abbrev pub undamaged : {A : Type 0} → Result A ℕ → Result A OpenError
undamaged (Ok x) = Ok x
undamaged (Err sector) = Err (Damaged sector)

-- what the segment holds that begins at this sector, has so many, and has this header: its snapshot, the frames behind that, and
-- the table after their commands
unfoldable pub segment_at : ℕ → ℕ → Header → List ℕ → Result SegmentImage OpenError
segment_at base sectors header image = do
  snapshot ← ok_or (snapshot_in (base + 2) header image) (Damaged (base + 2))
  frames ← undamaged (frames_in (area_of base sectors header snapshot) image)
  table ← folded_in header.version header.settings snapshot frames.commands
  Ok (record {
    version = header.version;
    base = base;
    generation = header.generation;
    settings = header.settings;
    snapshot = snapshot;
    area = area_of base sectors header snapshot;
    frames = frames;
    table = table;
  })

-- ## An image

-- what an image holds: its live segment, and the older one where its gate is open too
pub record DiskImage : Type 0 where
  pub live : SegmentImage
  pub older : Option SegmentImage

-- how many sectors a segment has: segment A begins the disk, and segment B begins behind it
abbrev pub half : List ℕ → ℕ
half image = length image / 512 / 2

-- where the other segment begins, if each has so many sectors and this one begins there
abbrev pub other_base : ℕ → ℕ → ℕ
other_base half base = if base == 0 then half else 0

-- the header in this sector of an image, of a segment of so many sectors
abbrev pub header_in : ℕ → ℕ → List ℕ → Option Header
header_in sector sectors image = header_at sectors (sector_at sector image)

-- the header of the segment that begins at this sector and has so many, if its gate is open
unfoldable pub open_header : ℕ → ℕ → List ℕ → Result (Option Header) OpenError
open_header base sectors image =
    if is_open (sector_at base image) then (do
      header ← ok_or (header_in (base + 1) sectors image) (Damaged (base + 1))
      Ok (Some header))
    else Ok None

abbrev pub found_at : ℕ → Header → Found
found_at base header = record { base = base; header = header }

-- an older segment may not be of a later version than the live one: the first version is the live one's
abbrev pub is_later_than : Version → Version → Bool
is_later_than Two older = false
is_later_than (One policy) older = not (is_old older)

-- this segment is live and that one is older
abbrev pub in_order : Found → Found → Result (Found × Option Found) OpenError
in_order live older =
    if is_later_than live.header.version older.header.version then Err (Damaged (older.base + 1)) else Ok (live, Some older)

-- which of the open segments A and B is live, by its generation, and which one is older, if both are open
abbrev pub chosen : ℕ → Option Header → Option Header → Result (Found × Option Found) OpenError
chosen half None None = Err NotFormatted
chosen half (Some a) None = Ok (found_at 0 a, None)
chosen half None (Some b) = Ok (found_at half b, None)
chosen half (Some a) (Some b) =
    if a.generation == b.generation then Err (Damaged half)
    else if nat_lt b.generation a.generation then in_order (found_at 0 a) (found_at half b)
    else in_order (found_at half b) (found_at 0 a)

-- what the segment holds that was found open
abbrev pub found_in : ℕ → Found → List ℕ → Result SegmentImage OpenError
found_in sectors found image = segment_at found.base sectors found.header image

-- what the older one holds, if one was found open
abbrev pub older_in : ℕ → Option Found → List ℕ → Result (Option SegmentImage) OpenError
older_in sectors None image = Ok None
older_in sectors (Some found) image = do
  segment ← found_in sectors found image
  Ok (Some segment)

-- what an image holds: the headers of A and of B are read, each behind its gate, if that is open; then it is chosen which one is
-- live; then the live segment is read, and then the older one
unfoldable pub read_image : List ℕ → Result DiskImage OpenError
read_image image =
    if nat_lt (length image / 512) 6 then Err NotFormatted
    else do
      a ← open_header 0 (half image) image
      b ← open_header (half image) (half image) image
      found ← chosen (half image) a b
      live ← found_in (half image) found.0 image
      older ← older_in (half image) found.1 image
      Ok (record { live = live; older = older })

-- its live segment has this generation
abbrev pub HasGeneration : ℕ → List ℕ → Type 0
HasGeneration generation image = IsOkAnd (read_image image) (λ image. image.live.generation ≡ generation)

-- the version of the live segment, the settings, and the table
abbrev pub live_in : DiskImage → Version × State
live_in image = (image.live.version, record { settings = image.live.settings; table = image.live.table })

-- what an image reads to, as version 1 or 2: which of them, the settings and the table, or what is wrong and where
abbrev pub read_as : List ℕ → Result (Version × State) OpenError
read_as image = do
  held ← read_image image
  Ok (live_in held)

-- version 2 alone is recovered: of a disk of version 1 it is told that it is old
abbrev pub if_new : Version × State → Result State OpenError
if_new (One policy, state) = Err OldVersion
if_new (Two, state) = Ok state

-- what an image recovers to: the settings and the table, or what is wrong and where
unfoldable pub recovered : List ℕ → Result State OpenError
recovered image = do
  found ← read_as image
  if_new found
