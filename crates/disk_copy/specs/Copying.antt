-- What copying all events of an opened broker to a new disk says: why it is refused, and what the new disk then has.
use Rattle.std.specs.Prelude.{◌≡◌, ℕ, nat_lt, if◌then◌else◌, List, length, Option, Some, None}
use Rattle.sector_disk.specs.Disk.{DiskView}
use Rattle.sector_disk.specs.declared.disk.Disk.{Ghosts}
use Rattle.retry_rules.specs.declared.settings.Settings.{Settings}
use Rattle.invoke_records.specs.declared.command.Command.{Command}
use Rattle.invoke_records.specs.declared.snapshot.Snapshot.{Snapshot}
use Rattle.async_core.specs.History.{IsLegal}
use Rattle.checkpoint.specs.declared.error.SeedError.{SeedError}
use Rattle.checkpoint.specs.declared.error.SeedError.TheVariants as seed_error
use Rattle.checkpoint.specs.Image.{least_sectors}
use Rattle.checkpoint.specs.Live.{may_stand}
use Rattle.broker_core.specs.declared.broker.Broker.{Broker}
use Rattle.broker_core.specs.Broker.{settings_of, table_in}
use Rattle.broker_core.specs.History.{IsLegalStop}
use Rattle.disk_copy.specs.declared.change.Change.{Change}
use Rattle.disk_copy.specs.declared.change.ChangeError.{ChangeError}
use Rattle.disk_copy.specs.declared.change.ChangeError.TheVariants as change_error
use Rattle.disk_copy.specs.declared.error.CopyError.{CopyError}
use Rattle.disk_copy.specs.declared.error.CopyError.TheVariants as copy_error
use Rattle.disk_copy.specs.Change.{settings_with, refusal_between}

-- the settings of a copy of this broker
abbrev pub settings_for : {D : Type 0} {g : Ghosts D} → Broker D g → Change → Settings
settings_for broker change = settings_with change (settings_of broker)

-- ## Why it is refused

-- what a copy calls a refusal of its settings
abbrev pub of_change : ChangeError → CopyError
of_change (change_error.BadSettings field) = copy_error.BadSettings field
of_change (change_error.Smaller field) = copy_error.Smaller field
of_change change_error.OutOfMemory = copy_error.OutOfMemory

-- what it calls a refusal by the new disk
abbrev pub of_seed : SeedError → CopyError
of_seed (seed_error.TooSmall least) = copy_error.TooSmall least
of_seed seed_error.BadKind = copy_error.BadTable
of_seed seed_error.OutOfMemory = copy_error.OutOfMemory
of_seed seed_error.Fault = copy_error.Fault

-- why this table has no place on a disk of so many sectors under these settings, if it has none: the size comes first
abbrev pub misfit : ℕ → Settings → Snapshot → Option CopyError
misfit sectors s table =
    if nat_lt sectors (least_sectors s) then Some (copy_error.TooSmall (least_sectors s))
    else if may_stand s table then None else Some copy_error.BadTable

-- a refusal of the settings comes before one by the disk
abbrev pub first_cause : Option ChangeError → Option CopyError → Option CopyError
first_cause (Some why) misfit = Some (of_change why)
first_cause None misfit = misfit

-- why this broker is not copied to a disk of so many sectors, if it is refused
abbrev pub refusal_for : {D : Type 0} {g : Ghosts D} → ℕ → Broker D g → Change → Option CopyError
refusal_for sectors broker change =
    first_cause (refusal_between (settings_of broker) (settings_for broker change))
    (misfit sectors (settings_for broker change) (table_in broker))

-- that refusal is told; the memory may fail before, and the device where nothing is refused
abbrev pub IsCopyReason : Option CopyError → CopyError → Type 0
IsCopyReason refusal copy_error.OutOfMemory = Unit {0}
IsCopyReason refusal copy_error.Fault = refusal ≡ None
IsCopyReason refusal why = refusal ≡ Some why

-- ## What the new disk has

-- a broker that opens this disk goes on with this history: it is legal under these settings, and each image of the disk is a legal
-- stop of it with its whole length durable
pub record GoesOnWith (disk : DiskView) (s : Settings) (history : List Command) : Type 0 where
  pub legal : IsLegal s history
  pub stops : (image : List ℕ) → disk.may_leave image → IsLegalStop s history (length history) image
