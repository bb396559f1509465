-- How far a broker gets that takes commands of the other half. Names only steps of private functions: a reader of the public
-- contracts need not believe it.
use Rattle.std.specs.Prelude.{◌≡◌, ◌⊎◌, ◌+◌, ◌-◌, ◌<◌, List, length, slice_get, IfSome, IsSome, true, false}
use Rattle.sector_disk.specs.declared.disk.Disk.{Ghosts}
use Rattle.invoke_records.specs.declared.command.Command.{Command}
use Rattle.async_core.specs.Rules.{refusal_at}
use Rattle.broker_core.specs.declared.broker.Broker.{Broker}
use Rattle.broker_core.specs.declared.batch.Batch.{Batch}
use Rattle.broker_core.specs.declared.taking.TakeError.{TakeError}
use Rattle.broker_core.specs.declared.taking.TakeError.TheVariants as take_error
use Rattle.broker_core.specs.declared.error.WriteError.{WriteError}
use Rattle.broker_core.specs.declared.error.WriteError.TheVariants as write_error
use Rattle.broker_core.specs.declared.error.CommitError.{CommitError}
use Rattle.broker_core.specs.declared.error.CommitError.TheVariants as commit_error
use Rattle.broker_core.specs.declared.error.JoinError.{JoinError}
use Rattle.broker_core.specs.declared.error.JoinError.TheVariants as join_error
use Rattle.broker_core.specs.declared.issue_half.IssueHalf.{IssueHalf}
use Rattle.broker_core.specs.Broker.{settings_of, table_in, issued_of, pending_of, is_broken}
use Rattle.broker_core.specs.IssuerHalf.{half_view}
use Rattle.broker_core.specs.Batch.{last_of}
use Rattle.broker_core.specs.Writing.{IsApart, NextIsIllegal, missing_in}
use Rattle.broker_core.specs.Splitting.{Takes, Agree, ahead_of}

-- the next of the commands is not legal
abbrev pub IllegalNext : {D : Type 0} {g : Ghosts D} → Broker D g → Broker D g → List Command → Type 0
IllegalNext old new commands =
    IfSome (slice_get commands (issued_of new - issued_of old)) (λ command. IsSome (refusal_at (settings_of new) (table_in new) command))

-- why not all of the commands were taken
abbrev pub IsStop : {D : Type 0} {g : Ghosts D} → Broker D g → Broker D g → List Command → TakeError → Type 0
IsStop old new commands take_error.Illegal = IllegalNext old new commands
IsStop old new commands take_error.Backlog = length (pending_of new) ≡ 256
IsStop old new commands take_error.OutOfMemory = Unit {0}

-- some are left, and this is why
abbrev pub StopsBefore : {D : Type 0} {g : Ghosts D} → Broker D g → Broker D g → List Command → TakeError → Type 0
StopsBefore old new commands why = (issued_of new - issued_of old < length commands) × IsStop old new commands why

-- ## A batch

-- some of the batch's commands that it does not have were applied to the broker and are pending, and nothing else changed
abbrev pub TakesMissing : {D : Type 0} {g : Ghosts D} → Broker D g → Batch → Broker D g → Type 0
TakesMissing old batch new = Takes old new (missing_in old batch) (issued_of new - issued_of old)

-- all of them were
pub record HasTaken {D : Type 0} {g : Ghosts D} (old : Broker D g) (batch : Batch) (new : Broker D g) : Type 0 where
  pub whole : is_broken old ≡ false
  pub joined : IsApart old batch → ⊥
  pub all : issued_of new ≡ last_of batch

-- why not all were
abbrev pub IsTakeReason : {D : Type 0} {g : Ghosts D} → Broker D g → Batch → Broker D g → WriteError → Type 0
IsTakeReason old batch new write_error.Broken = is_broken old ≡ true
IsTakeReason old batch new write_error.Mismatch = (is_broken old ≡ false) × (IsApart old batch ⊎ NextIsIllegal old new batch)
IsTakeReason old batch new write_error.Backlog = (is_broken old ≡ false) × (issued_of new < last_of batch) × (length (pending_of new) ≡ 256)
IsTakeReason old batch new write_error.OutOfMemory = is_broken old ≡ false
IsTakeReason old batch new why = ⊥

-- why a batch was not written that was taken and not committed
abbrev pub commit_cause : CommitError → WriteError
commit_cause commit_error.Broken = write_error.Broken
commit_cause commit_error.WornOut = write_error.WornOut
commit_cause commit_error.BadKind = write_error.BadKind
commit_cause commit_error.OutOfMemory = write_error.OutOfMemory
commit_cause commit_error.Fault = write_error.Fault

-- ## Joining

-- why two halves that are whole were not joined
abbrev pub IsJoinStop : {D : Type 0} {g : Ghosts D} → IssueHalf → Broker D g → Broker D g → JoinError → Type 0
IsJoinStop issue old new join_error.Lent = ⊥
IsJoinStop issue old new join_error.Backlog =
    (length (pending_of new) ≡ 256) × (256 < length (pending_of old) + length (ahead_of issue old))
IsJoinStop issue old new join_error.OutOfMemory = Unit {0}
IsJoinStop issue old new join_error.Mismatch = Agree issue old → ⊥

-- all that was ahead was taken, and the tables are equal
pub record HasJoined {D : Type 0} {g : Ghosts D} (issue : IssueHalf) (old new : Broker D g) : Type 0 where
  pub all : issued_of new ≡ issued_of old + length (ahead_of issue old)
  pub agree : Agree issue old
  pub table : table_in new ≡ (half_view issue).table
