-- Names only steps of private functions: a reader of the public contracts need not believe it.
use Rattle.std.specs.Prelude.{◌≡◌, ◌⊎◌, ◌≤◌, ◌^◌, All, List, length, None, Some, Option}
use Rattle.sector_disk.specs.Disk.{DiskView}
use Rattle.sector_disk.specs.Moments.{LeavesOnly}
use Rattle.sector_disk.specs.declared.disk.Disk.{Ghosts}
use Rattle.invoke_records.specs.declared.snapshot.Snapshot.{Snapshot}
use Rattle.async_core.specs.declared.illegal.Illegal.{Illegal}
use Rattle.async_core.specs.Rules.{replay}
use Rattle.async_core.specs.State.{State, refusal_by}
use Rattle.invoke_records.specs.declared.command.Command.{Command}
use Rattle.invoke_records.specs.Spelling.{command_fault}
use Rattle.checkpoint.specs.declared.opened.Opened.{Opened}
use Rattle.checkpoint.specs.Live.{RecoversTo, RecoversToEither, IsLive}
use Rattle.checkpoint.specs.Live.{settings_of as live_settings}
use Rattle.broker_core.specs.declared.broker.Broker.{Broker}
use Rattle.broker_core.specs.declared.error.IssueError.{IssueError}
use Rattle.broker_core.specs.declared.error.IssueError.TheVariants as issue_error
use Rattle.broker_core.specs.Broker.{disk_of, settings_of, table_in, pending_of, opened_of}

-- the error says why the command is not legal, or else it is this other one
abbrev pub IsErrorFor : Option Illegal → IssueError → IssueError → Type 0
IsErrorFor refusal otherwise error =
    ((error ≡ otherwise) × (refusal ≡ None)) ⊎ ((why : Illegal) × (error ≡ issue_error.Illegal why) × (refusal ≡ Some why))

-- the disk's content recovered to this table, which the live segment of the disk now stands for
abbrev pub IsReadFrom : DiskView → DiskView → Opened → Snapshot → Type 0
IsReadFrom old new opened table = RecoversTo (live_settings opened) table old.content × IsLive new opened table

-- this holds of the table on an honest disk from which the pending commands lead to that of the broker
abbrev pub ForBothTables : {D : Type 0} {g : Ghosts D} → (D → DiskView) → Broker D g → (Snapshot → Type 0) → Type 0
ForBothTables view broker P =
    (view (disk_of broker)).honest → (before : Snapshot) → IsLive (view (disk_of broker)) (opened_of broker) before
    → replay (settings_of broker) before (pending_of broker) ≡ Some (table_in broker) → P before

-- at any moment since the broker was this one, a stop leaves this table or the broker's
abbrev pub LeavesEither : {D : Type 0} {g : Ghosts D} → (D → DiskView) → Broker D g → Broker D g → Snapshot → Type 0
LeavesEither view old new before =
    LeavesOnly (view (disk_of old)) (view (disk_of new)) (RecoversToEither (settings_of old) before (table_in old))

-- why a table and what is pending on it refuse a command
abbrev pub IsTakeReason : State → List Command → Command → IssueError → Type 0
IsTakeReason table pending command issue_error.Broken = ⊥
IsTakeReason table pending command issue_error.WornOut = 2 ^ 62 ≤ table.table.number
IsTakeReason table pending command (issue_error.Illegal why) = refusal_by table command ≡ Some why
IsTakeReason table pending command issue_error.Backlog = (refusal_by table command ≡ None) × (length pending ≡ 256)
IsTakeReason table pending command issue_error.OutOfMemory = refusal_by table command ≡ None

-- each of these commands has a spelling
abbrev pub AreSpelled : List Command → Type 0
AreSpelled commands = All (λ c. command_fault c ≡ None) commands
