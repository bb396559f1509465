-- What copying all events of an opened broker with a longer age says: why it is refused, and what the new disk then has.
use Rattle.std.specs.Prelude.{◌≡◌, ◌⊎◌, ℕ, Bool, false, ◌&&◌, nat_le, if◌then◌else◌, List, Option, Some}
use Rattle.std.specs.List.{list_all}
use Rattle.sector_disk.specs.Disk.{DiskView}
use Rattle.sector_disk.specs.declared.disk.Disk.{Ghosts}
use Rattle.retry_rules.specs.declared.settings.Settings.{Settings}
use Rattle.retry_rules.specs.declared.settings.Field.TheVariants as field
use Rattle.retry_rules.specs.Settings.{is_outside}
use Rattle.invoke_records.specs.declared.command.Command.{Command}
use Rattle.invoke_records.specs.declared.snapshot.Snapshot.{Snapshot}
use Rattle.invoke_records.specs.Spelling.{greatest_number}
use Rattle.async_core.specs.History.{table_of}
use Rattle.broker_core.specs.declared.broker.Broker.{Broker}
use Rattle.broker_core.specs.Broker.{settings_of, table_in}
use Rattle.disk_copy.specs.declared.change.Change.{Change}
use Rattle.disk_copy.specs.declared.error.CopyError.{CopyError}
use Rattle.disk_copy.specs.declared.error.CopyError.TheVariants as copy_error
use Rattle.disk_copy.specs.Change.{refusal_between}
use Rattle.disk_copy.specs.Copying.{settings_for, misfit, first_cause, IsCopyReason, GoesOnWith}
use Rattle.aged_copy.specs.Aging.{aged}
use Rattle.aged_copy.specs.AgingSteps.{is_counted}

-- an age outside its range is refused behind bad settings, and before what the disk refuses
abbrev pub age_cause : ℕ → Option CopyError → Option CopyError
age_cause age rest = if is_outside 60 21600 age then Some (copy_error.BadSettings field.Age) else rest

-- why this broker is not copied with this age to a disk of so many sectors, if it is refused
abbrev pub refusal_with_age : {D : Type 0} {g : Ghosts D} → ℕ → Broker D g → Change → ℕ → Option CopyError
refusal_with_age sectors broker change age =
    first_cause (refusal_between (settings_of broker) (settings_for broker change))
    (age_cause age (misfit sectors (settings_for broker change) (aged age (table_in broker))))

-- each number in the table is one that a command may have
abbrev pub has_numbers : Snapshot → Bool
has_numbers table = nat_le table.number greatest_number && list_all is_counted table.rows

-- that refusal is told; a table with other numbers is bad too
abbrev pub IsAgedReason : Option CopyError → Snapshot → CopyError → Type 0
IsAgedReason refusal table copy_error.BadTable = (refusal ≡ Some copy_error.BadTable) ⊎ (has_numbers table ≡ false)
IsAgedReason refusal table why = IsCopyReason refusal why

-- a broker that opens this disk goes on with a history that leaves this table: it is legal under these settings, and all of it is durable
pub record GoesOnFrom (disk : DiskView) (s : Settings) (table : Snapshot) : Type 0 where
  pub history : List Command
  pub leaves : table_of s history ≡ table
  pub goes_on : GoesOnWith disk s history
