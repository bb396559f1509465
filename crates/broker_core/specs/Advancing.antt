-- What an advance of the half over the disk does: what was staged is durable, and what is pending comes behind it.
use Rattle.std.specs.Prelude.{◌≡◌, ◌⊎◌, ℕ, ◌+◌, ◌<◌, false, length, Option, None, Some, Result, Ok, Err}
use Rattle.sector_disk.specs.declared.disk.Disk.{Ghosts}
use Rattle.gate_journal.specs.declared.staged.Staged.{Staged}
use Rattle.gate_journal.specs.Staged.{count_of}
use Rattle.broker_core.specs.declared.broker.Broker.{Broker}
use Rattle.broker_core.specs.declared.batch.Batch.{Batch}
use Rattle.broker_core.specs.declared.batch.Written.{Written}
use Rattle.broker_core.specs.declared.batch.Failed.{Failed}
use Rattle.broker_core.specs.declared.error.WriteError.{WriteError}
use Rattle.broker_core.specs.Broker.{issued_of, pending_of, durable_of, is_broken, staged_of}
use Rattle.broker_core.specs.Batch.{last_of, first_written, last_written, first_failed, last_failed, cause_of}
use Rattle.broker_core.specs.Refusals.{HasSwitched}

-- what was staged is durable now, and nothing else; where nothing was, all that is pending is staged now, or durable
abbrev pub HasOpened : {D : Type 0} {g : Ghosts D} → Option Staged → Option Staged → Broker D g → Broker D g → Type 0
HasOpened (Some group) next old new = durable_of new ≡ durable_of old + count_of group
HasOpened None (Some next) old new = (durable_of new ≡ durable_of old) × (count_of next ≡ length (pending_of new))
HasOpened None None old new = durable_of new ≡ issued_of new

-- the whole batch was taken, and what was staged is durable
pub record Advances {D : Type 0} {g : Ghosts D} (old : Broker D g) (batch : Batch) (new : Broker D g) : Type 0 where
  pub issued : issued_of new ≡ last_of batch
  pub whole : is_broken new ≡ false
  pub opened : HasOpened (staged_of old) (staged_of new) old new

-- the numbers of what an advance made durable, or of what it left pending
abbrev pub HasNumbers : {D : Type 0} {g : Ghosts D} → Broker D g → Batch → Broker D g → Result (Option Written) Failed → Type 0
HasNumbers old batch new (Ok None) = durable_of new ≡ durable_of old
HasNumbers old batch new (Ok (Some written)) =
    (durable_of old < durable_of new) × (first_written written ≡ durable_of old + 1) × (last_written written ≡ durable_of new)
HasNumbers old batch new (Err failed) = (first_failed failed ≡ durable_of old + 1) × (last_failed failed ≡ last_of batch)

-- the advance was refused with this cause
abbrev pub IsNotAdvancedAs : Result (Option Written) Failed → WriteError → Type 0
IsNotAdvancedAs (Ok written) why = ⊥
IsNotAdvancedAs (Err failed) why = cause_of failed ≡ why

-- it switched once or never where it went on, and never where it was refused
abbrev pub HasSwitchedIn : {D : Type 0} {g : Ghosts D} → Broker D g → Broker D g → Result (Option Written) Failed → Type 0
HasSwitchedIn old new (Ok written) = HasSwitched 0 old new ⊎ HasSwitched 1 old new
HasSwitchedIn old new (Err failed) = HasSwitched 0 old new
