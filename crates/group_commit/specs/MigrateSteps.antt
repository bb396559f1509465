-- What the private steps of a migration give. No public contract cites it.
use Rattle.std.specs.Prelude.{◌≡◌, ℕ, ◌<◌, ◌≤◌, ◌^◌, true, false, Option, None, Some, Result, OnOk}
use Rattle.sector_disk.specs.Disk.{DiskView}
use Rattle.sector_disk.specs.Moments.{LeavesOnly}
use Rattle.retry_rules.specs.declared.settings.Settings.{Settings}
use Rattle.invoke_records.specs.declared.snapshot.Snapshot.{Snapshot}
use Rattle.invoke_records.specs.declared.version.Version.{Version}
use Rattle.invoke_records.specs.Versions.{is_old}
use Rattle.checkpoint.specs.Image.{least_sectors}
use Rattle.checkpoint.specs.declared.opened.Opened.{Opened}
use Rattle.checkpoint.specs.declared.error.OpenError.{OpenError}
use Rattle.checkpoint.specs.declared.error.OpenError.TheVariants as open_error
use Rattle.checkpoint.specs.Live.{version_of, settings_of, generation_of, ReadsAs, IsLiveIn, IsLive, may_stand}
use Rattle.group_commit.specs.declared.error.MigrateError.{MigrateError}
use Rattle.group_commit.specs.declared.error.MigrateError.TheVariants as migrate_error
use Rattle.group_commit.specs.Migrating.{ReadsTo}

-- the disk's content read, in the version that was opened, to this table, which the live segment of the disk now stands for
abbrev pub IsReadAs : DiskView → DiskView → Opened → Snapshot → Type 0
IsReadAs old new opened table =
    ReadsAs (version_of opened) (settings_of opened) table old.content × IsLiveIn (version_of opened) new opened table

-- why a disk of so many sectors is not migrated of which this was opened, or that it may be
abbrev pub IsJudged : ℕ → Opened → Option MigrateError → Type 0
IsJudged sectors opened None =
    (is_old (version_of opened) ≡ true) × (least_sectors (settings_of opened) ≤ sectors) × (generation_of opened < 2 ^ 62)
IsJudged sectors opened (Some migrate_error.NotOld) = is_old (version_of opened) ≡ false
IsJudged sectors opened (Some (migrate_error.TooSmall least)) =
    (is_old (version_of opened) ≡ true) × (least ≡ least_sectors (settings_of opened)) × (sectors < least)
IsJudged sectors opened (Some migrate_error.WornOut) =
    (is_old (version_of opened) ≡ true) × (least_sectors (settings_of opened) ≤ sectors) × (2 ^ 62 ≤ generation_of opened)
IsJudged sectors opened (Some other) = ⊥

-- why a disk is not migrated that was not opened in either version; that it is of version 1 is no such cause
abbrev pub migrate_error_of : OpenError → MigrateError
migrate_error_of open_error.NotFormatted = migrate_error.NotFormatted
migrate_error_of (open_error.Damaged sector) = migrate_error.Damaged sector
migrate_error_of open_error.OutOfMemory = migrate_error.OutOfMemory
migrate_error_of open_error.Fault = migrate_error.Fault
migrate_error_of open_error.OldVersion = migrate_error.NotFormatted

-- why the other segment was not written: the table may not stand on the disk, or the device or the memory failed
abbrev pub IsUnwritten : Settings → Snapshot → MigrateError → Type 0
IsUnwritten s table migrate_error.BadKind = may_stand s table ≡ false
IsUnwritten s table migrate_error.OutOfMemory = Unit {0}
IsUnwritten s table migrate_error.Fault = Unit {0}
IsUnwritten s table other = ⊥

-- the device failed, or this holds
abbrev pub IsFaultOr : Type 0 → MigrateError → Type 0
IsFaultOr P migrate_error.Fault = Unit {0}
IsFaultOr P why = P

-- if an honest disk of either version was live with this table, it is now live with it in version 2
abbrev pub WritesTable : DiskView → DiskView → Opened → Opened → Snapshot → Result (Unit {0}) MigrateError → Type 0
WritesTable old new was is table result =
    old.honest → (version : Version) → IsLiveIn version old was table → OnOk result (IsLive new is table)

-- and at each moment in between every image reads to it
abbrev pub LeavesTable : DiskView → DiskView → Opened → Snapshot → Type 0
LeavesTable old new was table =
    old.honest → (version : Version) → IsLiveIn version old was table → LeavesOnly old new (ReadsTo (settings_of was) table)
