-- What a broker is split into, and what two halves are joined to.
use Rattle.std.specs.Prelude.{◌≡◌, ◌⊎◌, ℕ, ◌-◌, ◌≤◌, ◌<◌, ◌+◌, true, false, List, [], ◌++◌, length, take, drop, None, Some, IsSome}
use Rattle.sector_disk.specs.Disk.{DiskView}
use Rattle.sector_disk.specs.declared.disk.Disk.{Ghosts}
use Rattle.invoke_records.specs.declared.command.Command.{Command}
use Rattle.async_core.specs.Rules.{replay}
use Rattle.broker_core.specs.declared.broker.Broker.{Broker}
use Rattle.broker_core.specs.declared.disk_half.DiskHalf.{DiskHalf}
use Rattle.broker_core.specs.declared.issue_half.IssueHalf.{IssueHalf}
use Rattle.broker_core.specs.declared.error.SplitError.{SplitError}
use Rattle.broker_core.specs.declared.error.SplitError.TheVariants as split_error
use Rattle.broker_core.specs.declared.error.JoinError.{JoinError}
use Rattle.broker_core.specs.declared.error.JoinError.TheVariants as join_error
use Rattle.broker_core.specs.Broker.{disk_of, settings_of, table_in, issued_of, pending_of, durable_of, is_broken, opened_of, staged_of, Stands}
use Rattle.broker_core.specs.IssuerHalf.{half_view, lent_of}

-- the broker of the half over the disk
abbrev pub broker_of : {D : Type 0} {g : Ghosts D} → DiskHalf D g → Broker D g
broker_of half = half.broker

-- ## Splitting

-- the half over the disk is the broker, and the issue half has an equal table, of which all is durable
pub record Splits {D : Type 0} {g : Ghosts D} (broker : Broker D g) (issue : IssueHalf) (disk : DiskHalf D g) : Type 0 where
  pub sound : is_broken broker ≡ false
  pub disk_is : broker_of disk ≡ broker
  pub settings : (half_view issue).settings ≡ settings_of broker
  pub table : (half_view issue).table ≡ table_in broker
  pub pending : (half_view issue).pending ≡ []
  pub durable : (half_view issue).durable ≡ durable_of broker
  pub broken : (half_view issue).broken ≡ false
  pub lent : lent_of issue ≡ None

-- why a broker was not split
abbrev pub IsSplitReason : {D : Type 0} {g : Ghosts D} → Broker D g → SplitError → Type 0
IsSplitReason broker split_error.Broken = is_broken broker ≡ true
IsSplitReason broker split_error.OutOfMemory = is_broken broker ≡ false

-- ## Joining

-- what is pending in the issue half and comes behind the list of the half over the disk
abbrev pub ahead_of : {D : Type 0} {g : Ghosts D} → IssueHalf → Broker D g → List Command
ahead_of issue disk = drop (issued_of disk - (half_view issue).durable) (half_view issue).pending

-- the table of the half over the disk, after that, is the table of the issue half
pub record Agree {D : Type 0} {g : Ghosts D} (issue : IssueHalf) (disk : Broker D g) : Type 0 where
  pub settings : settings_of disk ≡ (half_view issue).settings
  pub table : replay (settings_of disk) (table_in disk) (ahead_of issue disk) ≡ Some (half_view issue).table

-- neither half is broken, and no batch is out
pub record AreWhole {D : Type 0} {g : Ghosts D} (issue : IssueHalf) (disk : Broker D g) : Type 0 where
  pub unlent : lent_of issue ≡ None
  pub issue_whole : (half_view issue).broken ≡ false
  pub disk_whole : is_broken disk ≡ false

-- so many of these commands were applied to the broker and are pending, and nothing else changed
pub record Takes {D : Type 0} {g : Ghosts D} (old new : Broker D g) (commands : List Command) (count : ℕ) : Type 0 where
  pub most : count ≤ length commands
  pub disk : disk_of new ≡ disk_of old
  pub opened : opened_of new ≡ opened_of old
  pub settings : settings_of new ≡ settings_of old
  pub table : replay (settings_of old) (table_in old) (take count commands) ≡ Some (table_in new)
  pub issued : issued_of new ≡ issued_of old + count
  pub pending : pending_of new ≡ pending_of old ++ take count commands
  pub durable : durable_of new ≡ durable_of old
  pub broken : is_broken new ≡ is_broken old
  pub staged : staged_of new ≡ staged_of old

-- the halves are whole and agree, and the broker is the disk half's with all that it did not have
pub record JoinsWhole {D : Type 0} {g : Ghosts D} (issue : IssueHalf) (disk broker : Broker D g) : Type 0 where
  pub whole : AreWhole issue disk
  pub agree : Agree issue disk
  pub takes : Takes disk broker (ahead_of issue disk) (length (ahead_of issue disk))
  pub table : table_in broker ≡ (half_view issue).table

-- no batch is out, one of the halves is broken, and the broker is the disk half's, broken
pub record JoinsBroken {D : Type 0} {g : Ghosts D} (issue : IssueHalf) (disk broker : Broker D g) : Type 0 where
  pub unlent : lent_of issue ≡ None
  pub either : ((half_view issue).broken ≡ true) ⊎ (is_broken disk ≡ true)
  pub broken : is_broken broker ≡ true
  pub disk_is : disk_of broker ≡ disk_of disk
  pub opened : opened_of broker ≡ opened_of disk
  pub settings : settings_of broker ≡ settings_of disk
  pub table : table_in broker ≡ table_in disk
  pub pending : pending_of broker ≡ pending_of disk
  pub durable : durable_of broker ≡ durable_of disk

-- what the halves are joined to
abbrev pub Joins : {D : Type 0} {g : Ghosts D} → IssueHalf → Broker D g → Broker D g → Type 0
Joins issue disk broker = JoinsWhole issue disk broker ⊎ JoinsBroken issue disk broker

-- why two halves were not joined
abbrev pub IsJoinReason : {D : Type 0} {g : Ghosts D} → IssueHalf → Broker D g → Broker D g → JoinError → Type 0
IsJoinReason issue old new join_error.Lent = IsSome (lent_of issue)
IsJoinReason issue old new join_error.Backlog =
    AreWhole issue old × (length (pending_of new) ≡ 256) × (256 < length (pending_of old) + length (ahead_of issue old))
IsJoinReason issue old new join_error.OutOfMemory = AreWhole issue old
IsJoinReason issue old new join_error.Mismatch = AreWhole issue old × (Agree issue old → ⊥)

-- two halves that were not joined: the issue half is as it was, and the disk half's list has gone on by some of what it did
-- not have
pub record IsNotJoined {D : Type 0} {g : Ghosts D} (issue issue_after : IssueHalf) (old new : Broker D g) (why : JoinError) : Type 0 where
  pub same : issue_after ≡ issue
  pub count : ℕ
  pub takes : Takes old new (ahead_of issue old) count
  pub reason : IsJoinReason issue old new why

-- what the disk half took of what is pending in the issue half and it did not have
abbrev pub taken_ahead : {D : Type 0} {g : Ghosts D} → IssueHalf → Broker D g → Broker D g → List Command
taken_ahead issue old new = take (issued_of new - issued_of old) (ahead_of issue old)

-- the broker stands for the disk half's history with what was taken
abbrev pub StandsWithAhead : {D : Type 0} {g : Ghosts D} → (D → DiskView) → IssueHalf → Broker D g → List Command → Broker D g → Type 0
StandsWithAhead view issue old history new = Stands view new (history ++ taken_ahead issue old new)

-- this holds of each history that the issue half stands for, and of which the disk half stands for a front
abbrev pub ForEachSharedHistory : {D : Type 0} {g : Ghosts D} → (D → DiskView) → IssueHalf → Broker D g → (List Command → Type 0) → Type 0
ForEachSharedHistory view issue disk P =
    (history : List Command) → (half_view issue).stands history → Stands view disk (take (issued_of disk) history) → P history
