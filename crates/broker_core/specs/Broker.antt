-- A broker as contracts see it, and the history that it stands for.
use Rattle.std.specs.Prelude.{◌≡◌, ℕ, ◌+◌, [], ◌∷◌, ◌++◌, ◌^◌, ◌≤◌, Bool, true, false, Option, None, Some, IfSome, List, length, take, drop}
use Rattle.sector_disk.specs.Disk.{DiskView}
use Rattle.sector_disk.specs.declared.disk.Disk.{Ghosts}
use Rattle.retry_rules.specs.declared.settings.Settings.{Settings}
use Rattle.invoke_records.specs.declared.snapshot.Snapshot.{Snapshot}
use Rattle.invoke_records.specs.declared.command.Command.{Command}
use Rattle.async_core.specs.Rules.{refusal_at, table_after}
use Rattle.async_core.specs.History.{IsLegal, table_of}
use Rattle.gate_journal.specs.declared.staged.Staged.{Staged}
use Rattle.gate_journal.specs.Staged.{count_of}
use Rattle.checkpoint.specs.declared.opened.Opened.{Opened}
use Rattle.checkpoint.specs.Live.{IsLive}
use Rattle.checkpoint.specs.Ahead.{IsLiveAhead}
use Rattle.broker_core.specs.declared.broker.Broker.{Broker}
use Rattle.broker_core.specs.declared.error.IssueError.{IssueError}
use Rattle.broker_core.specs.declared.error.IssueError.TheVariants as issue_error
use Rattle.broker_core.specs.History.{AreGood, IsLegalStop}

-- its disk
abbrev pub disk_of : {D : Type 0} {g : Ghosts D} → Broker D g → D
disk_of broker = broker.disk

-- the settings that the disk was formatted with
abbrev pub settings_of : {D : Type 0} {g : Ghosts D} → Broker D g → Settings
settings_of broker = broker.table.settings

-- the table after all that was issued
abbrev pub table_in : {D : Type 0} {g : Ghosts D} → Broker D g → Snapshot
table_in broker = broker.table.table

-- how many commands were issued
abbrev pub issued_of : {D : Type 0} {g : Ghosts D} → Broker D g → ℕ
issued_of broker = broker.table.table.number

-- the commands that are issued and not durable
abbrev pub pending_of : {D : Type 0} {g : Ghosts D} → Broker D g → List Command
pending_of broker = broker.pending.items

-- how many commands are durable
abbrev pub durable_of : {D : Type 0} {g : Ghosts D} → Broker D g → ℕ
durable_of broker = broker.durable

-- the device failed
abbrev pub is_broken : {D : Type 0} {g : Ghosts D} → Broker D g → Bool
is_broken broker = broker.broken

-- the live segment
abbrev pub opened_of : {D : Type 0} {g : Ghosts D} → Broker D g → Opened
opened_of broker = broker.opened

-- what of the pending commands is written behind the log and not opened
abbrev pub staged_of : {D : Type 0} {g : Ghosts D} → Broker D g → Option Staged
staged_of broker = broker.staged

-- a broker, with its disk at a moment
pub record BrokerState : Type 1 where
  pub disk : DiskView
  pub opened : Opened
  pub settings : Settings
  pub table : Snapshot
  pub pending : List Command
  pub durable : ℕ
  pub broken : Bool
  pub staged : Option Staged

-- what this broker is, where its disk is seen so
abbrev pub state_of : {D : Type 0} {g : Ghosts D} → (D → DiskView) → Broker D g → BrokerState
state_of view broker = record {
  disk = view (disk_of broker);
  opened = opened_of broker;
  settings = settings_of broker;
  table = table_in broker;
  pending = pending_of broker;
  durable = durable_of broker;
  broken = is_broken broker;
  staged = staged_of broker;
}

-- It stands for a history: its table is the history's, what is pending is the end of it behind the durable commands, every image
-- of an honest disk is a legal stop, and unless it is broken its disk is settled, with the first of what is pending behind its log,
-- if they are staged.
pub record StandsFor (broker : BrokerState) (history : List Command) : Type 0 where
  pub good : AreGood broker.settings
  pub legal : IsLegal broker.settings history
  pub table_is : broker.table ≡ table_of broker.settings history
  pub durable_is : broker.durable ≤ length history
  pub pending_is : broker.pending ≡ drop broker.durable history
  pub stops : broker.disk.honest → (image : List ℕ) → broker.disk.may_leave image → IsLegalStop broker.settings history broker.durable image
  pub live : broker.broken ≡ false → broker.disk.honest → IsLive broker.disk broker.opened (table_of broker.settings (take broker.durable history))
  pub front : IfSome broker.staged (λ group. count_of group ≤ length broker.pending)
  pub ahead : broker.broken ≡ false → broker.disk.honest → IfSome broker.staged (λ group.
      IsLiveAhead broker.disk broker.opened (table_of broker.settings (take broker.durable history)) (take (count_of group) broker.pending) group)

-- the broker stands for this history
abbrev pub Stands : {D : Type 0} {g : Ghosts D} → (D → DiskView) → Broker D g → List Command → Type 0
Stands view broker history = StandsFor (state_of view broker) history

-- two moments of a broker between which nothing was issued or committed
pub record IsSameBroker {D : Type 0} {g : Ghosts D} (old new : Broker D g) : Type 0 where
  pub disk : disk_of new ≡ disk_of old
  pub settings : settings_of new ≡ settings_of old
  pub table : table_in new ≡ table_in old
  pub pending : pending_of new ≡ pending_of old
  pub durable : durable_of new ≡ durable_of old
  pub broken : is_broken new ≡ is_broken old
  pub opened : opened_of new ≡ opened_of old
  pub staged : staged_of new ≡ staged_of old

-- this command was applied and is pending, and nothing else changed
pub record Issues {D : Type 0} {g : Ghosts D} (old new : Broker D g) (command : Command) (ticket : ℕ) : Type 0 where
  pub disk : disk_of new ≡ disk_of old
  pub settings : settings_of new ≡ settings_of old
  pub table : table_in new ≡ table_after (settings_of old) (table_in old) command
  pub legal : refusal_at (settings_of old) (table_in old) command ≡ None
  pub issued : issued_of new ≡ issued_of old + 1
  pub pending : pending_of new ≡ pending_of old ++ command ∷ []
  pub durable : durable_of new ≡ durable_of old
  pub broken : is_broken new ≡ is_broken old
  pub opened : opened_of new ≡ opened_of old
  pub staged : staged_of new ≡ staged_of old
  pub number : ticket ≡ issued_of new

-- all that was pending is durable
pub record Commits {D : Type 0} {g : Ghosts D} (old new : Broker D g) (durable : ℕ) : Type 0 where
  pub settings : settings_of new ≡ settings_of old
  pub table : table_in new ≡ table_in old
  pub pending : pending_of new ≡ []
  pub all : durable_of new ≡ issued_of old
  pub broken : is_broken new ≡ is_broken old
  pub staged : staged_of new ≡ None
  pub number : durable ≡ durable_of new

-- the device failed, and nothing is taken for durable that was not before
pub record Breaks {D : Type 0} {g : Ghosts D} (old new : Broker D g) : Type 0 where
  pub settings : settings_of new ≡ settings_of old
  pub table : table_in new ≡ table_in old
  pub pending : pending_of new ≡ pending_of old
  pub durable : durable_of new ≡ durable_of old
  pub broken : is_broken new ≡ true
  pub opened : opened_of new ≡ opened_of old
  pub staged : staged_of new ≡ staged_of old

-- why a command was refused
abbrev pub IsReason : {D : Type 0} {g : Ghosts D} → Broker D g → Command → IssueError → Type 0
IsReason broker command issue_error.Broken = is_broken broker ≡ true
IsReason broker command issue_error.WornOut = 2 ^ 62 ≤ issued_of broker
IsReason broker command (issue_error.Illegal why) = refusal_at (settings_of broker) (table_in broker) command ≡ Some why
IsReason broker command issue_error.Backlog =
    (refusal_at (settings_of broker) (table_in broker) command ≡ None) × (length (pending_of broker) ≡ 256)
IsReason broker command issue_error.OutOfMemory = refusal_at (settings_of broker) (table_in broker) command ≡ None
