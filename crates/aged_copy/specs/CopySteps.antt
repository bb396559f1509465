-- What the private step of a copy with a longer age gives. No public contract cites it.
use Rattle.std.specs.Prelude.{◌≡◌, ◌⊎◌, ℕ, true, false, None, Some}
use Rattle.retry_rules.specs.declared.settings.Settings.{Settings}
use Rattle.retry_rules.specs.declared.settings.Field.TheVariants as field
use Rattle.retry_rules.specs.Settings.{is_outside}
use Rattle.invoke_records.specs.declared.snapshot.Snapshot.{Snapshot}
use Rattle.disk_copy.specs.declared.change.ChangeError.{ChangeError}
use Rattle.disk_copy.specs.declared.error.CopyError.{CopyError}
use Rattle.disk_copy.specs.declared.error.CopyError.TheVariants as copy_error
use Rattle.disk_copy.specs.Change.{refusal_between}
use Rattle.disk_copy.specs.Copying.{of_change}
use Rattle.aged_copy.specs.Copying.{has_numbers}

-- the memory failed, or the new settings, the age or the table are refused, and this says so
abbrev pub IsUnprepared : Settings → Settings → ℕ → Snapshot → CopyError → Type 0
IsUnprepared old new age table why =
    (why ≡ copy_error.OutOfMemory)
    ⊎ ((cause : ChangeError) × (refusal_between old new ≡ Some cause) × (why ≡ of_change cause))
    ⊎ ((refusal_between old new ≡ None) × (is_outside 60 21600 age ≡ true) × (why ≡ copy_error.BadSettings field.Age))
    ⊎ ((has_numbers table ≡ false) × (why ≡ copy_error.BadTable))
