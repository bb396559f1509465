-- What the half over the disk becomes: by one commit of an office, and by all commits and advances of a serving.
use Rattle.std.specs.Prelude.{◌≡◌, ◌⊎◌, ℕ, ◌≤◌, true, false, List, ◌++◌, Result, Ok, Err, OnOk, IfErr}
use Rattle.sector_disk.specs.Disk.{DiskView, IsSameDisk}
use Rattle.sector_disk.specs.Moments.{LeavesOnly}
use Rattle.sector_disk.specs.declared.disk.Disk.{Ghosts}
use Rattle.invoke_records.specs.declared.command.Command.{Command}
use Rattle.broker_core.specs.declared.broker.Broker.{Broker}
use Rattle.broker_core.specs.declared.batch.Batch.{Batch}
use Rattle.broker_core.specs.declared.batch.Written.{Written}
use Rattle.broker_core.specs.declared.batch.Failed.{Failed}
use Rattle.broker_core.specs.declared.error.WriteError.TheVariants as write_error
use Rattle.broker_core.specs.History.{IsLegalStop}
use Rattle.broker_core.specs.Broker.{disk_of, settings_of, issued_of, durable_of, is_broken, Stands}
use Rattle.broker_core.specs.Promises.{ForEachHistory}
use Rattle.broker_core.specs.Refusals.{FaultsHaveRisen}
use Rattle.broker_core.specs.Batch.{last_of, last_written, last_in, cause_of}
use Rattle.broker_core.specs.Writing.{taken_from, IsRefusedAs, IsNotWritten, Writes, StaysInFront, LeavesStopsWith}
use Rattle.hall_plans.specs.declared.error.HallError.{HallError}
use Rattle.hall_plans.specs.declared.error.HallError.TheVariants as error
use Rattle.hall_core.specs.Halves.{write_error_of}

-- ## One commit

-- what a commit tells of a write: its number where it was written, why where it was not, or that it is not of this office
abbrev pub IsToldOf : Result Written Failed → Result ℕ HallError → Type 0
IsToldOf (Ok written) (Ok durable) = durable ≡ last_written written
IsToldOf (Ok written) (Err why) = why ≡ error.OtherHalf
IsToldOf (Err failed) (Ok durable) = ⊥
IsToldOf (Err failed) (Err why) = (why ≡ write_error_of (cause_of failed)) ⊎ (why ≡ error.OtherHalf)

-- the half wrote this batch, or refused to: then all of it is durable, or nothing more than before; it stands for its list
-- with what it took of the batch, and at each moment a stop left a legal stop of that
pub record WritesBatch {D : Type 0} {g : Ghosts D} (view : D → DiskView) (count : D → ℕ) (old new : Broker D g)
    (batch : Batch) (result : Result ℕ HallError) : Type 0 where
  pub outcome : Result Written Failed
  pub told : IsToldOf outcome result
  pub last : last_in outcome ≡ last_of batch
  pub done : OnOk outcome (Writes batch new)
  pub refused : IfErr outcome (λ failed. IsNotWritten old batch new (cause_of failed))
  pub fault : IsRefusedAs outcome write_error.Fault → FaultsHaveRisen count old new
  pub later : count (disk_of old) ≤ count (disk_of new)
  pub same : IsSameDisk (view (disk_of old)) (view (disk_of new))
  pub settings : settings_of new ≡ settings_of old
  pub longer : issued_of old ≤ issued_of new
  pub stands : ForEachHistory view old (λ history. Stands view new (history ++ taken_from old new batch))
  pub front : StaysInFront view old new batch
  pub any_moment : LeavesStopsWith view old new batch

-- what a commit that answered this did to the half: nothing, or it wrote the one batch that was lent
abbrev pub CommitsTo : {D : Type 0} {g : Ghosts D}
    → (D → DiskView) → (D → ℕ) → Broker D g → Broker D g → Result ℕ HallError → Type 0
CommitsTo view count old new result = (new ≡ old) ⊎ ((batch : Batch) × WritesBatch view count old new batch result)

-- ## A whole serving

-- the half's list is this history and what it took since, and at each moment a stop left a legal stop of that
pub record GoesOnFrom {D : Type 0} {g : Ghosts D} (view : D → DiskView) (old new : Broker D g) (history : List Command) : Type 0 where
  pub taken : List Command
  pub stands : Stands view new (history ++ taken)
  pub any_moment :
      (view (disk_of old)).honest
      → LeavesOnly (view (disk_of old)) (view (disk_of new)) (IsLegalStop (settings_of old) (history ++ taken) (durable_of old))

-- what any number of commits and advances made of the half: its list is longer, nothing durable was taken back, a device that
-- failed was counted, and it goes on from each history that it stood for
pub record HasServed {D : Type 0} {g : Ghosts D} (view : D → DiskView) (count : D → ℕ) (old new : Broker D g) : Type 0 where
  pub same : IsSameDisk (view (disk_of old)) (view (disk_of new))
  pub settings : settings_of new ≡ settings_of old
  pub longer : issued_of old ≤ issued_of new
  pub durable : durable_of old ≤ durable_of new
  pub later : count (disk_of old) ≤ count (disk_of new)
  pub fault : is_broken old ≡ false → is_broken new ≡ true → FaultsHaveRisen count old new
  pub each : ForEachHistory view old (GoesOnFrom view old new)
