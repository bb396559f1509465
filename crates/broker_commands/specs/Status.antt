-- With which status of the program a command ends.
use Rattle.std.specs.Prelude.{◌≡◌, ◌⊎◌, ℕ, Bool, Result, Ok, Err, if◌then◌else◌}
use Rattle.clap.specs.declared.error.kind.ErrorKind.{ErrorKind}
use Rattle.clap.specs.declared.error.kind.ErrorKind.TheVariants.{DisplayHelp, DisplayVersion, OutOfMemory}
use Rattle.broker_commands.specs.declared.auditing.Audit.{Audit}
use Rattle.broker_commands.specs.declared.auditing.AuditError.{AuditError}
use Rattle.broker_commands.specs.Auditing.{is_device_fault, status_for}

-- of one that was refused: 3 where the device failed, else 1
abbrev pub status_of_refusal : Bool → ℕ
status_of_refusal is_device_fault = if is_device_fault then 3 else 1

-- 0 where it did what it was asked to, else that of its refusal
abbrev pub status_after : {T E : Type 0} → (E → Bool) → Result T E → ℕ
status_after is_fault (Ok done) = 0
status_after is_fault (Err why) = status_of_refusal (is_fault why)

-- of an audit: that of what the disk tells, else that of its refusal
abbrev pub status_of_audit : Result Audit AuditError → ℕ
status_of_audit (Ok audit) = status_for audit.report.older
status_of_audit (Err why) = status_of_refusal (is_device_fault why)

-- a command was done, or refused, or the device failed
abbrev pub IsJobStatus : ℕ → Type 0
IsJobStatus status = (status ≡ 0) ⊎ ((status ≡ 1) ⊎ (status ≡ 3))

-- of words that are no command: 0 where help or the version was asked for, 1 where memory is wanting, else 2
abbrev pub status_of_usage : ErrorKind → ℕ
status_of_usage DisplayHelp = 0
status_of_usage DisplayVersion = 0
status_of_usage OutOfMemory = 1
status_of_usage mistake = 2
