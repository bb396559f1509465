-- What migrating a disk of version 1 of the format promises: what a stop leaves meanwhile, what Ok says, and when it is refused.
use Rattle.std.specs.Prelude.{◌≡◌, ◌⊎◌, ℕ, ◌+◌, ◌<◌, ◌≤◌, ◌^◌, false, List, Ok, Err}
use Rattle.sector_disk.specs.Disk.{DiskView}
use Rattle.retry_rules.specs.declared.policy.RetryPolicy.{RetryPolicy}
use Rattle.retry_rules.specs.declared.settings.Settings.{Settings}
use Rattle.invoke_records.specs.declared.command.Command.{Command}
use Rattle.invoke_records.specs.declared.snapshot.Snapshot.{Snapshot}
use Rattle.invoke_records.specs.declared.version.Version.{Version}
use Rattle.invoke_records.specs.declared.version.Version.TheVariants.{One, Two}
use Rattle.async_core.specs.State.{State}
use Rattle.async_core.specs.History.{IsLegal, table_of}
use Rattle.checkpoint.specs.declared.error.OpenError.TheVariants as open_error
use Rattle.checkpoint.specs.Image.{read_as, least_sectors, HasGeneration}
use Rattle.checkpoint.specs.Live.{ReadsAs, RecoversTo, may_stand}
use Rattle.group_commit.specs.declared.error.MigrateError.{MigrateError}
use Rattle.group_commit.specs.declared.error.MigrateError.TheVariants as migrate_error
use Rattle.broker_core.specs.Promises.{LeavesWhatWas}

-- ## What an image holds

-- the image reads, as version 1 or 2, to these settings and this table: its number, and of each event its standing, its outcome, its
-- counts, its payload and its answer
abbrev pub ReadsTo : Settings → Snapshot → List ℕ → Type 0
ReadsTo s table image = (version : Version) × ReadsAs version s table image

-- each image of the disk reads so to the table of a legal history
abbrev pub HoldsHistories : DiskView → Type 0
HoldsHistories disk =
    (image : List ℕ) → disk.may_leave image
    → (s : Settings) × (history : List Command) × IsLegal s history × ReadsTo s (table_of s history) image

-- a read of the disk gives this table, in version 1, in a live segment of this generation
pub record IsOldDisk (disk : DiskView) (s : Settings) (table : Snapshot) (generation : ℕ) : Type 0 where
  pub policy : RetryPolicy
  pub reads : ReadsAs (One policy) s table disk.content
  pub generation_is : HasGeneration generation disk.content

-- ## What a stop leaves

-- until some moment a stop leaves an image from the call, and from that moment on each image has P: it is that at which the first
-- barrier has succeeded
pub record Phases (old new : DiskView) (P : List ℕ → Type 0) : Type 0 where
  pub settled : ℕ
  pub began : old.moment ≤ settled
  pub ended : settled ≤ new.moment
  pub before : (image : List ℕ) → new.left_since old.moment image → old.may_leave image ⊎ P image
  pub after : (image : List ℕ) → new.left_since settled image → P image

-- in between, all images read to what a read of the old disk gives
pub record LeavesOneTable (old new : DiskView) : Type 0 where
  pub settings : Settings
  pub table : Snapshot
  pub reads : ReadsTo settings table old.content
  pub phases : Phases old new (ReadsTo settings table)

-- at each moment of a migration: an image from the call, or, once the first barrier has succeeded, one that reads to the same table
abbrev pub LeavesMigrating : DiskView → DiskView → Type 0
LeavesMigrating old new = LeavesWhatWas old new ⊎ LeavesOneTable old new

-- ## What it answers

-- the old disk was of version 1; all images of the new one recover to its table, in the next generation
pub record Migrates (old new : DiskView) : Type 0 where
  pub settings : Settings
  pub table : Snapshot
  pub generation : ℕ
  pub was : IsOldDisk old settings table generation
  pub phases : Phases old new (ReadsTo settings table)
  pub recovers : (image : List ℕ) → new.may_leave image → RecoversTo settings table image
  pub next : HasGeneration (generation + 1) new.content

-- why a disk was not migrated: the first of these that holds, in their order; the device and the memory may fail at any moment
abbrev pub IsMigrateReason : DiskView → MigrateError → Type 0
IsMigrateReason disk migrate_error.NotFormatted = read_as disk.content ≡ Err open_error.NotFormatted
IsMigrateReason disk (migrate_error.Damaged sector) = read_as disk.content ≡ Err (open_error.Damaged sector)
IsMigrateReason disk migrate_error.NotOld = (state : State) × (read_as disk.content ≡ Ok (Two, state))
IsMigrateReason disk (migrate_error.TooSmall least) =
    (s : Settings) × (table : Snapshot) × (generation : ℕ)
    × IsOldDisk disk s table generation × (least ≡ least_sectors s) × (disk.sectors < least)
IsMigrateReason disk migrate_error.WornOut =
    (s : Settings) × (table : Snapshot) × (generation : ℕ)
    × IsOldDisk disk s table generation × (least_sectors s ≤ disk.sectors) × (2 ^ 62 ≤ generation)
IsMigrateReason disk migrate_error.BadKind =
    (s : Settings) × (table : Snapshot) × (generation : ℕ) × IsOldDisk disk s table generation × (may_stand s table ≡ false)
IsMigrateReason disk migrate_error.OutOfMemory = Unit {0}
IsMigrateReason disk migrate_error.Fault = Unit {0}

-- each image of the disk reads to one table
abbrev pub HoldsOne : DiskView → Type 0
HoldsOne disk = (s : Settings) × (table : Snapshot) × ((image : List ℕ) → disk.may_leave image → ReadsTo s table image)

-- where it was refused for its version, its size, its generation or its table, that is so of each image
abbrev pub HoldsOneWhere : DiskView → MigrateError → Type 0
HoldsOneWhere disk migrate_error.NotFormatted = Unit {0}
HoldsOneWhere disk (migrate_error.Damaged sector) = Unit {0}
HoldsOneWhere disk migrate_error.OutOfMemory = Unit {0}
HoldsOneWhere disk migrate_error.Fault = Unit {0}
HoldsOneWhere disk why = HoldsOne disk

-- nothing was written: it reads as before, and a stop leaves an image from before
abbrev pub IsUnchanged : DiskView → DiskView → Type 0
IsUnchanged old new = (new.content ≡ old.content) × LeavesWhatWas old new

-- only where the device failed may something have been written
abbrev pub WritesNothingBut : DiskView → DiskView → MigrateError → Type 0
WritesNothingBut old new migrate_error.Fault = Unit {0}
WritesNothingBut old new why = IsUnchanged old new

-- what may refuse a disk of which each image reads to the table of a legal history
abbrev pub IsSoundRefusal : MigrateError → Type 0
IsSoundRefusal migrate_error.NotFormatted = ⊥
IsSoundRefusal (migrate_error.Damaged sector) = ⊥
IsSoundRefusal migrate_error.BadKind = ⊥
IsSoundRefusal other = Unit {0}
