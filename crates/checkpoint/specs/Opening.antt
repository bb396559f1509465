-- What opening a disk says: what was opened, and what a refusal tells of the disk.
use Rattle.std.specs.Prelude.{◌≡◌, ℕ, List, Some, Result, Ok, Err, IfErr, IsErrOf}
use Rattle.sector_disk.specs.Disk.{DiskView, IsSameDisk, IsUntouched}
use Rattle.invoke_records.specs.declared.command.Command.{Command}
use Rattle.invoke_records.specs.declared.snapshot.Snapshot.{Snapshot}
use Rattle.async_core.specs.Rules.{replay}
use Rattle.gate_journal.specs.declared.error.ReadError.{ReadError}
use Rattle.gate_journal.specs.declared.error.ReadError.TheVariants as read_error
use Rattle.checkpoint.specs.declared.error.OpenError.{OpenError}
use Rattle.checkpoint.specs.declared.error.OpenError.TheVariants.{Fault, OutOfMemory, NotFormatted, Damaged, OldVersion}
use Rattle.checkpoint.specs.declared.opened.Opened.{Opened}
use Rattle.checkpoint.specs.Image.{DiskImage, parts_of, read_image, read_as, recovered}
use Rattle.checkpoint.specs.Live.{version_of, settings_of, ReadsAs, RecoversTo, IsLiveIn, IsLive}

-- reads alone: the disk is as it was
pub record OnlyReads (old new : DiskView) : Type 0 where
  pub same : IsSameDisk old new
  pub untouched : old.honest → IsUntouched old new

-- the device or the memory failed: nothing is said of what the disk holds
abbrev pub IsNoFinding : OpenError → Type 0
IsNoFinding Fault = Unit {0}
IsNoFinding OutOfMemory = Unit {0}
IsNoFinding NotFormatted = ⊥
IsNoFinding (Damaged sector) = ⊥
IsNoFinding OldVersion = ⊥

-- why the disk was refused is what reading it gives, unless the device or the memory failed
abbrev pub Refuses : {A : Type 0} → OpenError → Result A OpenError → Type 0
Refuses Fault read = Unit {0}
Refuses OutOfMemory read = Unit {0}
Refuses NotFormatted read = read ≡ Err NotFormatted
Refuses (Damaged sector) read = read ≡ Err (Damaged sector)
Refuses OldVersion read = read ≡ Err OldVersion

-- from this snapshot the commands lead to the table that the old disk's image recovers to, and with which the new one is live
abbrev pub IsRecovered : DiskView → DiskView → Opened → Snapshot → List Command → Type 0
IsRecovered old new opened snapshot commands =
    (table : Snapshot) × (replay (settings_of opened) snapshot commands ≡ Some table)
    × RecoversTo (settings_of opened) table old.content × IsLive new opened table

-- from this snapshot the commands lead to the table that the old disk's image reads to, in the version of what was opened, and with
-- which the new one is live
abbrev pub IsReadIn : DiskView → DiskView → Opened → Snapshot → List Command → Type 0
IsReadIn old new opened snapshot commands =
    (table : Snapshot) × (replay (settings_of opened) snapshot commands ≡ Some table)
    × ReadsAs (version_of opened) (settings_of opened) table old.content × IsLiveIn (version_of opened) new opened table

-- the live segment of this image has this snapshot, and these commands behind it
pub record AreLiveParts (bytes : List ℕ) (snapshot : Snapshot) (commands : List Command) : Type 0 where
  pub image : DiskImage
  pub reads : read_image bytes ≡ Ok image
  pub parts : parts_of image.live ≡ (snapshot, commands)

-- what `NotFormatted` says, on an honest disk: it recovers to just that
abbrev pub TellsNotFormatted : {A : Type 0} → DiskView → Result A OpenError → Type 0
TellsNotFormatted disk result = disk.honest → IsErrOf result NotFormatted → recovered disk.content ≡ Err NotFormatted

-- what `Damaged` says, on an honest disk: it recovers to damage at that sector
abbrev pub TellsDamage : {A : Type 0} → DiskView → Result A OpenError → Type 0
TellsDamage disk result = disk.honest → (sector : ℕ) → result ≡ Err (Damaged sector) → recovered disk.content ≡ Err (Damaged sector)

-- what `OldVersion` says, on an honest disk: its live segment is of version 1, and all of it can be read
abbrev pub TellsOld : {A : Type 0} → DiskView → Result A OpenError → Type 0
TellsOld disk result = disk.honest → IsErrOf result OldVersion → recovered disk.content ≡ Err OldVersion

-- what another refusal says of a disk that may be of either version: reading it gives just that, unless the device or the memory failed
abbrev pub TellsUnread : {A : Type 0} → DiskView → Result A OpenError → Type 0
TellsUnread disk result = disk.honest → IfErr result (λ why. Refuses why (read_as disk.content))

-- why a disk is not opened whose journal was not read
abbrev pub open_error_of : ReadError → OpenError
open_error_of read_error.Fault = Fault
open_error_of read_error.OutOfMemory = OutOfMemory
open_error_of (read_error.Damaged sector) = Damaged sector
