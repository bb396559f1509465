-- What the private steps of opening a disk give. No public contract cites it.
use Rattle.std.specs.Prelude.{◌≡◌, ℕ, ◌+◌, ◌*◌, ◌^◌, ◌<◌, ◌≤◌, Bool, true, List, map, take, drop, Option, None, Some, is_some, Result, Ok}
use Rattle.sector_disk.specs.Disk.{DiskView}
use Rattle.async_core.specs.Rules.{replay}
use Rattle.invoke_records.specs.declared.command.Command.{Command}
use Rattle.invoke_records.specs.declared.snapshot.Snapshot.{Snapshot}
use Rattle.gate_journal.specs.Journal as journal
use Rattle.retry_rules.specs.Settings.{bad_field}
use Rattle.gate_journal.specs.Frames.{Frames, sectors_for}
use Rattle.checkpoint.specs.Image.{SegmentImage, DiskImage, parts_of, segment_sectors_in, area_of, snapshot_in, found_in, folded_in}
use Rattle.checkpoint.specs.ReadSteps.{segments_in}
use Rattle.checkpoint.specs.Live.{version_of, settings_of, IsLiveIn}
use Rattle.checkpoint.specs.declared.header.Header.{Header}
use Rattle.checkpoint.specs.declared.choosing.Found.{Found}
use Rattle.checkpoint.specs.declared.segment.Segment.{Segment}
use Rattle.checkpoint.specs.declared.opened.Opened.{Opened}
use Rattle.checkpoint.specs.declared.error.OpenError.{OpenError}
use Rattle.checkpoint.specs.declared.error.OpenError.TheVariants.{Fault, OutOfMemory, NotFormatted, Damaged, OldVersion}

-- so many sectors of an image, from this one on
abbrev pub sectors_at : ℕ → ℕ → List ℕ → List ℕ
sectors_at at count image = take (512 * count) (drop (512 * at) image)

-- the disk is live with the table to which the commands lead from this snapshot
abbrev pub IsLiveBehind : DiskView → Opened → Snapshot → List Command → Type 0
IsLiveBehind disk opened snapshot commands =
    (table : Snapshot) × (replay (settings_of opened) snapshot commands ≡ Some table) × IsLiveIn (version_of opened) disk opened table

-- the device or the memory failed, or this sector is damaged, since what should stand there is none
abbrev pub IsDamage : {A : Type 0} → ℕ → Option A → OpenError → Type 0
IsDamage sector found Fault = Unit {0}
IsDamage sector found OutOfMemory = Unit {0}
IsDamage sector found NotFormatted = ⊥
IsDamage sector found OldVersion = ⊥
IsDamage sector found (Damaged at) = (at ≡ sector) × (found ≡ None)

-- a header of good settings, which leaves room for its snapshot and a frame in a segment of so many sectors
pub record IsSoundHeader (sectors : ℕ) (header : Header) : Type 0 where
  pub good : bad_field header.settings ≡ None
  pub size : header.size < 2 ^ 50
  pub room : sectors_for header.size + 5 ≤ sectors
  pub least : segment_sectors_in header.version header.settings ≤ sectors

-- such a header at the front of segment A or B
pub record IsSoundFound (sectors : ℕ) (found : Found) : Type 0 where
  pub header : IsSoundHeader sectors found.header
  pub base : found.base ≤ sectors

-- the snapshot and the frames were read of the segment that was found open in this image
pub record IsRead (sectors : ℕ) (found : Found) (bytes : List ℕ) (segment : Segment) : Type 0 where
  pub frames : Frames
  pub version : segment.version ≡ found.header.version
  pub base : segment.base ≡ found.base
  pub generation : segment.generation ≡ found.header.generation
  pub settings : segment.settings ≡ found.header.settings
  pub snapshot : snapshot_in (found.base + 2) found.header bytes ≡ Some segment.snapshot
  pub holds : journal.Holds (area_of found.base sectors found.header segment.snapshot) frames segment.journal bytes
  pub behind : frames.commands ≡ segment.behind.items

-- this is the segment, opened, with its snapshot and its commands, each of which is legal after those before it
pub record Opens (segment : Segment) (other_open : Bool) (opened : Opened) (snapshot : Snapshot) (commands : List Command) : Type 0 where
  pub version : opened.version ≡ segment.version
  pub base : opened.base ≡ segment.base
  pub generation : opened.generation ≡ segment.generation
  pub settings : opened.settings ≡ segment.settings
  pub journal : opened.journal ≡ segment.journal
  pub other : opened.other_open ≡ other_open
  pub first : snapshot ≡ segment.snapshot
  pub others : commands ≡ map (λ c. c.1) segment.behind.items
  pub table : Snapshot
  pub folds : folded_in segment.version segment.settings segment.snapshot segment.behind.items ≡ Ok table

-- what was found open in this image is this live segment, opened, with its snapshot and its commands
pub record IsOpened (sectors : ℕ) (found : Found) (bytes : List ℕ) (other_open : Bool)
    (opened : Opened) (snapshot : Snapshot) (commands : List Command) : Type 0 where
  pub image : SegmentImage
  pub reads : found_in sectors found bytes ≡ Ok image
  pub version : image.version ≡ opened.version
  pub base : image.base ≡ opened.base
  pub generation : image.generation ≡ opened.generation
  pub settings : image.settings ≡ opened.settings
  pub holds : journal.Holds image.area image.frames opened.journal bytes
  pub other : opened.other_open ≡ other_open
  pub replays : replay (settings_of opened) snapshot commands ≡ Some image.table
  pub parts : parts_of image ≡ (snapshot, commands)

-- the live segment was opened so, and the older one can be
pub record AreBoth (sectors : ℕ) (live older : Found) (bytes : List ℕ)
    (opened : Opened) (snapshot : Snapshot) (commands : List Command) : Type 0 where
  pub first : IsOpened sectors live bytes true opened snapshot commands
  pub beside : SegmentImage
  pub beside_reads : found_in sectors older bytes ≡ Ok beside

-- what was read so is this image, whose live segment was opened, with its snapshot and its commands
pub record IsOpenedAs (read : Result DiskImage OpenError) (bytes : List ℕ)
    (opened : Opened) (snapshot : Snapshot) (commands : List Command) : Type 0 where
  pub image : DiskImage
  pub reads : read ≡ Ok image
  pub version : image.live.version ≡ opened.version
  pub base : image.live.base ≡ opened.base
  pub generation : image.live.generation ≡ opened.generation
  pub settings : image.live.settings ≡ opened.settings
  pub other : is_some image.older ≡ opened.other_open
  pub holds : journal.Holds image.live.area image.live.frames opened.journal bytes
  pub replays : replay (settings_of opened) snapshot commands ≡ Some image.live.table
  pub parts : parts_of image.live ≡ (snapshot, commands)

-- the segments that were found open in this image were opened so
abbrev pub AreOpened : ℕ → Found → Option Found → List ℕ → Opened → Snapshot → List Command → Type 0
AreOpened sectors live older bytes = IsOpenedAs (segments_in sectors bytes (Ok (live, older))) bytes
