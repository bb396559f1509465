-- What a write of a batch does to the half over the disk.
use Rattle.std.specs.Prelude.{◌≡◌, ◌⊎◌, ◌+◌, ◌-◌, ◌<◌, true, false, List, [], ◌++◌, length, take, drop, slice_get, IfSome, IsSome, Result, Ok, Err}
use Rattle.sector_disk.specs.Disk.{DiskView}
use Rattle.sector_disk.specs.Moments.{LeavesOnly}
use Rattle.sector_disk.specs.declared.disk.Disk.{Ghosts}
use Rattle.invoke_records.specs.declared.command.Command.{Command}
use Rattle.async_core.specs.Rules.{refusal_at}
use Rattle.broker_core.specs.declared.broker.Broker.{Broker}
use Rattle.broker_core.specs.declared.batch.Batch.{Batch}
use Rattle.broker_core.specs.declared.batch.Written.{Written}
use Rattle.broker_core.specs.declared.batch.Failed.{Failed}
use Rattle.broker_core.specs.declared.error.WriteError.{WriteError}
use Rattle.broker_core.specs.declared.error.WriteError.TheVariants as write_error
use Rattle.broker_core.specs.History.{IsLegalStop}
use Rattle.broker_core.specs.Broker.{disk_of, settings_of, table_in, issued_of, pending_of, durable_of, is_broken}
use Rattle.broker_core.specs.Promises.{ForEachHistory}
use Rattle.broker_core.specs.Refusals.{IsWornOut, NeedsSwitch, HasBadTable, HasSwitched}
use Rattle.broker_core.specs.Batch.{first_of, last_of, commands_of, cause_of, is_lasting}

-- the batch begins behind a gap, or ends below the end of the half's own list
abbrev pub IsApart : {D : Type 0} {g : Ghosts D} → Broker D g → Batch → Type 0
IsApart half batch = (issued_of half + 1 < first_of batch) ⊎ (last_of batch < issued_of half)

-- the commands of the batch that the half does not have
abbrev pub missing_in : {D : Type 0} {g : Ghosts D} → Broker D g → Batch → List Command
missing_in half batch = drop (issued_of half + 1 - first_of batch) (commands_of batch)

-- those of them that the half took
abbrev pub taken_from : {D : Type 0} {g : Ghosts D} → Broker D g → Broker D g → Batch → List Command
taken_from old new batch = take (issued_of new - issued_of old) (missing_in old batch)

-- the next of them is not legal
abbrev pub NextIsIllegal : {D : Type 0} {g : Ghosts D} → Broker D g → Broker D g → Batch → Type 0
NextIsIllegal old new batch =
    IfSome (slice_get (missing_in old batch) (issued_of new - issued_of old))
    (λ command. IsSome (refusal_at (settings_of new) (table_in new) command))
    × (issued_of new < last_of batch)

-- the whole batch was taken
abbrev pub HasAll : {D : Type 0} {g : Ghosts D} → Broker D g → Batch → Type 0
HasAll half batch = issued_of half ≡ last_of batch

-- why a batch was not written, by the half before and after
abbrev pub IsWriteReason : {D : Type 0} {g : Ghosts D} → Broker D g → Batch → Broker D g → WriteError → Type 0
IsWriteReason old batch new write_error.Broken = is_broken old ≡ true
IsWriteReason old batch new write_error.Mismatch = IsApart old batch ⊎ NextIsIllegal old new batch
IsWriteReason old batch new write_error.WornOut = HasAll new batch × IsWornOut new × NeedsSwitch new
IsWriteReason old batch new write_error.Backlog = (issued_of new < last_of batch) × (length (pending_of new) ≡ 256)
IsWriteReason old batch new write_error.BadKind = HasAll new batch × HasBadTable new × NeedsSwitch new
IsWriteReason old batch new write_error.OutOfMemory = is_broken new ≡ false
IsWriteReason old batch new write_error.Fault = HasAll new batch × (is_broken new ≡ true)

-- the whole batch is durable, and nothing is pending
pub record Writes {D : Type 0} {g : Ghosts D} (batch : Batch) (new : Broker D g) : Type 0 where
  pub issued : issued_of new ≡ last_of batch
  pub durable : durable_of new ≡ last_of batch
  pub pending : pending_of new ≡ []
  pub whole : is_broken new ≡ false

-- the write was refused with this cause
abbrev pub IsRefusedAs : Result Written Failed → WriteError → Type 0
IsRefusedAs (Ok written) why = ⊥
IsRefusedAs (Err failed) why = cause_of failed ≡ why

-- what holds of a half after a write that was refused
pub record IsNotWritten {D : Type 0} {g : Ghosts D} (old : Broker D g) (batch : Batch) (new : Broker D g) (why : WriteError) : Type 0 where
  pub reason : IsWriteReason old batch new why
  pub broken : is_broken new ≡ is_lasting why
  pub durable : durable_of new ≡ durable_of old

-- it switched once or never where the batch was written, and never where it was refused
abbrev pub HasSwitchedFor : {D : Type 0} {g : Ghosts D} → Broker D g → Broker D g → Result Written Failed → Type 0
HasSwitchedFor old new (Ok written) = HasSwitched 0 old new ⊎ HasSwitched 1 old new
HasSwitchedFor old new (Err failed) = HasSwitched 0 old new

-- this list ends with the batch
pub record EndsWith (whole : List Command) (batch : Batch) : Type 0 where
  pub last : last_of batch ≡ length whole
  pub commands : commands_of batch ≡ drop (first_of batch - 1) whole

-- this list is the front of the other
abbrev pub IsFrontOf : List Command → List Command → Type 0
IsFrontOf history whole = history ≡ take (length history) whole

-- where the half's list is the front of a list that ends with the batch, it stays so
abbrev pub StaysInFront : {D : Type 0} {g : Ghosts D} → (D → DiskView) → Broker D g → Broker D g → Batch → Type 0
StaysInFront view old new batch =
    (whole : List Command) → EndsWith whole batch
    → ForEachHistory view old (λ history. IsFrontOf history whole → IsFrontOf (history ++ taken_from old new batch) whole)

-- at any moment since the half had this broker, a stop leaves a legal stop of its list with what it took of the batch
abbrev pub LeavesStopsWith : {D : Type 0} {g : Ghosts D} → (D → DiskView) → Broker D g → Broker D g → Batch → Type 0
LeavesStopsWith view old new batch =
    (view (disk_of old)).honest
    → ForEachHistory view old (λ history.
    LeavesOnly (view (disk_of old)) (view (disk_of new))
    (IsLegalStop (settings_of old) (history ++ taken_from old new batch) (durable_of old)))
