-- When the calls of a broker are refused, and what a refusal says.
use Rattle.std.specs.Prelude.{◌≡◌, ◌⊎◌, ℕ, ◌+◌, ◌<◌, ◌≤◌, ◌^◌, true, false, List, length, None, Some, Result, Ok, Err}
use Rattle.sector_disk.specs.Disk.{HasRisen}
use Rattle.sector_disk.specs.declared.disk.Disk.{Ghosts}
use Rattle.retry_rules.specs.declared.settings.Settings.{Settings}
use Rattle.invoke_records.specs.declared.command.Command.{Command}
use Rattle.invoke_records.specs.Spelling.{commands_text}
use Rattle.async_core.specs.declared.illegal.Illegal.{Illegal}
use Rattle.async_core.specs.Rules.{refusal_at}
use Rattle.async_core.specs.History.{refusal_of}
use Rattle.checkpoint.specs.declared.error.OpenError.{OpenError}
use Rattle.checkpoint.specs.declared.error.OpenError.TheVariants as open_error
use Rattle.checkpoint.specs.Image.{recovered}
use Rattle.checkpoint.specs.Live.{fits, generation_of, may_stand}
use Rattle.broker_core.specs.declared.broker.Broker.{Broker}
use Rattle.broker_core.specs.declared.error.IssueError.{IssueError}
use Rattle.broker_core.specs.declared.error.IssueError.TheVariants as issue_error
use Rattle.broker_core.specs.declared.error.CommitError.{CommitError}
use Rattle.broker_core.specs.Broker.{disk_of, settings_of, table_in, issued_of, pending_of, durable_of, is_broken, opened_of}

-- ## Opening

-- the disk's count of faults has not fallen, and has risen where the cause is a fault
abbrev pub TellsFault : ℕ → ℕ → OpenError → Type 0
TellsFault before now cause = before ≤ now × (cause ≡ open_error.Fault → HasRisen before now)

-- the cause is that the disk was not formatted only where this image says so
abbrev pub TellsNotFormatted : List ℕ → OpenError → Type 0
TellsNotFormatted image cause = cause ≡ open_error.NotFormatted → recovered image ≡ Err open_error.NotFormatted

-- the cause is damage only where this image is damaged there
abbrev pub TellsDamage : List ℕ → OpenError → Type 0
TellsDamage image cause = (sector : ℕ) → cause ≡ open_error.Damaged sector → recovered image ≡ Err (open_error.Damaged sector)

-- the cause is that the disk is of version 1 only where this image says so
abbrev pub TellsOld : List ℕ → OpenError → Type 0
TellsOld image cause = cause ≡ open_error.OldVersion → recovered image ≡ Err open_error.OldVersion

-- what refuses a disk that is sound: the device, or memory
abbrev pub IsCutOff : OpenError → Type 0
IsCutOff why = (why ≡ open_error.Fault) ⊎ (why ≡ open_error.OutOfMemory)

-- ## Issuing

-- this holds of a broker that is neither broken nor worn out
abbrev pub OnUsable : {D : Type 0} {g : Ghosts D} → Broker D g → Type 0 → Type 0
OnUsable broker P = is_broken broker ≡ false → issued_of broker < 2 ^ 62 → P

-- the command is legal now
abbrev pub IsLegalNow : {D : Type 0} {g : Ghosts D} → Broker D g → Command → Type 0
IsLegalNow broker command = refusal_at (settings_of broker) (table_in broker) command ≡ None

-- the command is not legal now, since it fails this check first
abbrev pub Fails : {D : Type 0} {g : Ghosts D} → Broker D g → Command → Illegal → Type 0
Fails broker command why = refusal_at (settings_of broker) (table_in broker) command ≡ Some why

-- 256 commands are pending
abbrev pub IsFull : {D : Type 0} {g : Ghosts D} → Broker D g → Type 0
IsFull broker = length (pending_of broker) ≡ 256

-- fewer than 256 commands are pending
abbrev pub HasPlace : {D : Type 0} {g : Ghosts D} → Broker D g → Type 0
HasPlace broker = length (pending_of broker) < 256

-- the answer says that the command is illegal only as it is after this history
abbrev pub TellsIllegal : Settings → List Command → Command → Result ℕ IssueError → Type 0
TellsIllegal s history command result =
    (why : Illegal) → result ≡ Err (issue_error.Illegal why) → refusal_of s history command ≡ Some why

-- ## Committing

-- the disk's count of faults has risen
abbrev pub FaultsHaveRisen : {D : Type 0} {g : Ghosts D} → (D → ℕ) → Broker D g → Broker D g → Type 0
FaultsHaveRisen count old new = HasRisen (count (disk_of old)) (count (disk_of new))

-- the durable number is answered, and the disk is not called
abbrev pub AnswersAtOnce : {D : Type 0} {g : Ghosts D} → Broker D g → Broker D g → Result ℕ CommitError → Type 0
AnswersAtOnce old new result = (result ≡ Ok (durable_of old)) × (disk_of new ≡ disk_of old)

-- something is pending, and its frame does not fit into the live segment
abbrev pub NeedsSwitch : {D : Type 0} {g : Ghosts D} → Broker D g → Type 0
NeedsSwitch broker = (1 ≤ length (pending_of broker)) × (fits (opened_of broker) (length (commands_text (pending_of broker))) ≡ false)

-- nothing is pending, or its frame fits into the live segment
abbrev pub NeedsNoSwitch : {D : Type 0} {g : Ghosts D} → Broker D g → Type 0
NeedsNoSwitch broker = (length (pending_of broker) ≡ 0) ⊎ (fits (opened_of broker) (length (commands_text (pending_of broker))) ≡ true)

-- the live segment has the greatest generation
abbrev pub IsWornOut : {D : Type 0} {g : Ghosts D} → Broker D g → Type 0
IsWornOut broker = 2 ^ 62 ≤ generation_of (opened_of broker)

-- the table has no spelling, or is past the limits of its settings
abbrev pub HasBadTable : {D : Type 0} {g : Ghosts D} → Broker D g → Type 0
HasBadTable broker = may_stand (settings_of broker) (table_in broker) ≡ false

-- between these two moments the disk was switched to its other segment so often
abbrev pub HasSwitched : {D : Type 0} {g : Ghosts D} → ℕ → Broker D g → Broker D g → Type 0
HasSwitched times old new = generation_of (opened_of new) ≡ generation_of (opened_of old) + times
