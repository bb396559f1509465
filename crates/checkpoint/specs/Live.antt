-- An opened disk as contracts see it.
use Rattle.std.specs.Prelude.{◌≡◌, ◌⊎◌, ℕ, ◌*◌, ◌≤◌, Bool, ◌&&◌, List, Some, is_none, is_some, Result, Ok, Err, OnOk}
use Rattle.sector_disk.specs.Disk.{DiskView, HasOneImage}
use Rattle.sector_disk.specs.Moments.{LeavesOnly}
use Rattle.retry_rules.specs.declared.settings.Settings.{Settings}
use Rattle.invoke_records.specs.declared.snapshot.Snapshot.{Snapshot}
use Rattle.invoke_records.specs.declared.command.Command.{Command}
use Rattle.invoke_records.specs.declared.version.Version.{Version}
use Rattle.invoke_records.specs.declared.version.Version.TheVariants.{One, Two}
use Rattle.invoke_records.specs.Spelling.{snapshot_fault}
use Rattle.async_core.specs.Rules.{replay}
use Rattle.gate_journal.specs.declared.error.AppendError.{AppendError}
use Rattle.gate_journal.specs.Journal as journal
use Rattle.checkpoint.specs.declared.opened.Opened.{Opened}
use Rattle.checkpoint.specs.declared.error.SwitchError.{SwitchError}
use Rattle.std.proofs.Common.{ap, ◌∙◌}
use Rattle.async_core.specs.Limits.{is_within}
use Rattle.async_core.specs.State.{State}
use Rattle.checkpoint.specs.declared.error.OpenError.{OpenError}
use Rattle.checkpoint.specs.Image.{DiskImage, read_image, read_as, recovered, segment_sectors_in}
use Rattle.checkpoint.specs.ReadSteps.{live_read, new_read}

-- the settings of the live segment
abbrev pub settings_of : Opened → Settings
settings_of opened = opened.settings

-- its version
abbrev pub version_of : Opened → Version
version_of opened = opened.version

-- its generation
abbrev pub generation_of : Opened → ℕ
generation_of opened = opened.generation

-- the number of the next command
abbrev pub number_of : Opened → ℕ
number_of opened = journal.number_of opened.journal

-- the sector behind the live segment
abbrev pub end_of : Opened → ℕ
end_of opened = journal.end_of opened.journal

-- how many sectors of the live segment are free: those behind its last frame
abbrev pub free_sectors_of : Opened → ℕ
free_sectors_of opened = journal.free_sectors_of opened.journal

-- the gate of the other segment is open
abbrev pub is_other_open : Opened → Bool
is_other_open opened = opened.other_open

-- a frame of commands that fill so many bytes fits into the live segment
abbrev pub fits : Opened → ℕ → Bool
fits opened size = journal.fits opened.journal size

-- the disk has room for two segments of this version under the live one's settings, in which that one lies
pub record HasRoomFor (version : Version) (sectors : ℕ) (opened : Opened) : Type 0 where
  pub least : 2 * segment_sectors_in version opened.settings ≤ sectors
  pub end : journal.end_of opened.journal ≤ sectors

-- the same of those that are written
abbrev pub HasRoom : ℕ → Opened → Type 0
HasRoom sectors opened = HasRoomFor Two sectors opened

-- the image reads, as this version, to these settings and this table
abbrev pub ReadsAs : Version → Settings → Snapshot → List ℕ → Type 0
ReadsAs version s table image = read_as image ≡ Ok (version, record { settings = s; table = table })

-- the image recovers to these settings and this table
abbrev pub RecoversTo : Settings → Snapshot → List ℕ → Type 0
RecoversTo s table image = recovered image ≡ Ok (record { settings = s; table = table })

-- the disk has one image, in whose live segment, of this version, what was opened goes on behind the last frame, and it reads to
-- this table
pub record IsLiveIn (version : Version) (disk : DiskView) (opened : Opened) (table : Snapshot) : Type 0 where
  pub settled : HasOneImage disk
  pub image : DiskImage
  pub reads : read_image disk.content ≡ Ok image
  pub version_is : image.live.version ≡ version
  pub base : image.live.base ≡ opened.base
  pub generation : image.live.generation ≡ opened.generation
  pub settings : image.live.settings ≡ opened.settings
  pub other : is_some image.older ≡ opened.other_open
  pub holds : journal.Holds image.live.area image.live.frames opened.journal disk.content
  pub table_is : image.live.table ≡ table

-- and it recovers to it: it is of version 2
abbrev pub IsLive : DiskView → Opened → Snapshot → Type 0
IsLive disk opened table = IsLiveIn Two disk opened table

-- ## Appending

-- what Ok of an append says: if an honest disk was live with a table from which the commands lead to another, it is now live with that
abbrev pub Acknowledges : DiskView → DiskView → Opened → Opened → List Command → Result (Unit {0}) AppendError → Type 0
Acknowledges old new was is commands result =
    old.honest → (before after : Snapshot) → IsLive old was before → replay (settings_of was) before commands ≡ Some after
    → OnOk result (IsLive new is after)

-- the image recovers to these settings and one of these tables
abbrev pub RecoversToEither : Settings → Snapshot → Snapshot → List ℕ → Type 0
RecoversToEither s before after image = RecoversTo s before image ⊎ RecoversTo s after image

-- what a stop leaves at any moment of an append to an honest disk that was live: the table from before it, or after the whole batch
abbrev pub LeavesBeforeOrAfter : DiskView → DiskView → Opened → List Command → Type 0
LeavesBeforeOrAfter old new was commands =
    old.honest → (before after : Snapshot) → IsLive old was before → replay (settings_of was) before commands ≡ Some after
    → LeavesOnly old new (RecoversToEither (settings_of was) before after)

-- ## Switching

-- a snapshot that these settings let stand on a disk: it has a spelling and is within their limits
abbrev pub may_stand : Settings → Snapshot → Bool
may_stand s snapshot = is_none (snapshot_fault snapshot) && is_within s snapshot

-- what Ok of a switch says: if an honest disk was live, it is now live with the snapshot
abbrev pub Switches : DiskView → DiskView → Opened → Opened → Snapshot → Result (Unit {0}) SwitchError → Type 0
Switches old new was is snapshot result =
    old.honest → (before : Snapshot) → IsLive old was before → OnOk result (IsLive new is snapshot)

-- what a stop leaves at any moment of a switch on an honest disk that was live: the table from before it, or the snapshot
abbrev pub LeavesBeforeOrSnapshot : DiskView → DiskView → Opened → Snapshot → Type 0
LeavesBeforeOrSnapshot old new was snapshot =
    old.honest → (before : Snapshot) → IsLive old was before
    → LeavesOnly old new (RecoversToEither (settings_of was) before snapshot)

-- ## Migrating

-- what Ok of a switch says of a disk of either version: if an honest disk was live with a table, it is now live with the snapshot
abbrev pub SwitchesEither : DiskView → DiskView → Opened → Opened → Snapshot → Result (Unit {0}) SwitchError → Type 0
SwitchesEither old new was is snapshot result =
    old.honest → (version : Version) (before : Snapshot) → IsLiveIn version old was before → OnOk result (IsLive new is snapshot)

-- the image reads, as this version, to the table from before, or it recovers to that of a switch
abbrev pub ReadsToEither : Version → Settings → Snapshot → Snapshot → List ℕ → Type 0
ReadsToEither version s before after image = ReadsAs version s before image ⊎ RecoversTo s after image

-- what a stop leaves at any moment of a switch on an honest disk of either version that was live
abbrev pub LeavesOldOrSnapshot : DiskView → DiskView → Opened → Snapshot → Type 0
LeavesOldOrSnapshot old new was snapshot =
    old.honest → (version : Version) (before : Snapshot) → IsLiveIn version old was before
    → LeavesOnly old new (ReadsToEither version (settings_of was) before snapshot)

-- ## What is read, and what is recovered

-- as version 2 it is recovered
pub as_new : (s : Settings) (table : Snapshot) (image : List ℕ) → ReadsAs Two s table image → RecoversTo s table image
unfolding recovered
as_new s table image reads = ap new_read reads

if_new_ok : (read : Result (Version × State) OpenError) (state : State) → new_read read ≡ Ok state → read ≡ Ok (Two, state)
if_new_ok (Err why) state is = absurd cc
if_new_ok (Ok (One policy, other)) state is = absurd cc
if_new_ok (Ok (Two, other)) state is = let same : other ≡ state = cc in ap (λ (s : State). Ok (Two, s)) same

-- what is recovered reads as version 2
pub is_new : (s : Settings) (table : Snapshot) (image : List ℕ) → RecoversTo s table image → ReadsAs Two s table image
unfolding recovered
is_new s table image is = if_new_ok (read_as image) (record { settings = s; table = table }) is

-- an image that holds this reads to it
pub reads_as :
    (version : Version) (s : Settings) (image : List ℕ) (what : DiskImage) (table : Snapshot) → read_image image ≡ Ok what
    → what.live.version ≡ version → what.live.settings ≡ s → what.live.table ≡ table → ReadsAs version s table image
reads_as version s image what table reads version_is settings is =
    ap live_read reads ∙ (λ i. Ok (version_is i, record { settings = settings i; table = is i }))

-- each image of a live disk reads to its table, in its version
pub live_reads :
    (version : Version) (disk : DiskView) (opened : Opened) (table : Snapshot) → IsLiveIn version disk opened table
    → (image : List ℕ) → disk.may_leave image → ReadsAs version (settings_of opened) table image
live_reads version disk opened table live image left =
    ap read_as (live.settled image left) ∙ reads_as version (settings_of opened) disk.content live.image table live.reads live.version_is
    live.settings live.table_is

-- each image of a live disk of version 2 recovers to its table
pub live_recovers :
    (disk : DiskView) (opened : Opened) (table : Snapshot) → IsLive disk opened table → (image : List ℕ)
    → disk.may_leave image → RecoversTo (settings_of opened) table image
live_recovers disk opened table live image left =
    as_new (settings_of opened) table image (live_reads Two disk opened table live image left)
