-- What the command `migrate` tells of a disk, why it is refused, and which of its faults are the device's.
use Rattle.std.specs.Prelude.{◌≡◌, ℕ, ◌+◌, Bool, true, false}
use Rattle.sector_disk.specs.Disk.{DiskView}
use Rattle.retry_rules.specs.declared.settings.Settings.{Settings}
use Rattle.invoke_records.specs.declared.snapshot.Snapshot.{Snapshot}
use Rattle.checkpoint.specs.declared.error.OpenError.{OpenError}
use Rattle.group_commit.specs.Migrating.{IsOldDisk, IsMigrateReason}
use Rattle.broker_commands.specs.declared.migrating.Migrated.{Migrated}
use Rattle.checkpoint.specs.declared.error.OpenError.TheVariants as open_error
use Rattle.group_commit.specs.declared.error.MigrateError.TheVariants as migrate_error
use Rattle.broker_commands.specs.declared.migrating.MigratingError.{MigratingError}
use Rattle.broker_commands.specs.declared.migrating.MigratingError.TheVariants.{Disk, Migrate, Open}
use Rattle.broker_commands.specs.Opening.{is_disk_fault}

-- the disk was of version 1; its number is told, and the generation behind its own
pub record IsMigrated (disk : DiskView) (told : Migrated) : Type 0 where
  pub settings : Settings
  pub table : Snapshot
  pub generation : ℕ
  pub was : IsOldDisk disk settings table generation
  pub number : told.number ≡ table.number
  pub next : told.generation ≡ generation + 1

-- what keeps a disk that was migrated from being read back
abbrev pub IsPassing : OpenError → Type 0
IsPassing open_error.OutOfMemory = Unit {0}
IsPassing open_error.Fault = Unit {0}
IsPassing other = ⊥

-- the disk was not migrated, for this reason; or it was, and the device or the memory failed behind it
abbrev pub IsMigratingReason : DiskView → MigratingError → Type 0
IsMigratingReason disk (Disk why) = ⊥
IsMigratingReason disk (Migrate why) = IsMigrateReason disk why
IsMigratingReason disk (Open why) = IsPassing why

abbrev pub is_device_fault : MigratingError → Bool
is_device_fault (Disk why) = is_disk_fault why
is_device_fault (Migrate migrate_error.Fault) = true
is_device_fault (Open open_error.Fault) = true
is_device_fault refusal = false
