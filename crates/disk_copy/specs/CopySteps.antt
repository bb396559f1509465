-- What the private step of a copy gives. No public contract cites it.
use Rattle.std.specs.Prelude.{◌≡◌, ◌⊎◌, Some}
use Rattle.retry_rules.specs.declared.settings.Settings.{Settings}
use Rattle.disk_copy.specs.declared.change.ChangeError.{ChangeError}
use Rattle.disk_copy.specs.declared.error.CopyError.{CopyError}
use Rattle.disk_copy.specs.declared.error.CopyError.TheVariants as copy_error
use Rattle.disk_copy.specs.Change.{refusal_between}
use Rattle.disk_copy.specs.Copying.{of_change}

-- the new settings are refused, and this says so, or the memory failed
abbrev pub IsUnprepared : Settings → Settings → CopyError → Type 0
IsUnprepared old new why =
    (why ≡ copy_error.OutOfMemory) ⊎ ((cause : ChangeError) × (refusal_between old new ≡ Some cause) × (why ≡ of_change cause))
