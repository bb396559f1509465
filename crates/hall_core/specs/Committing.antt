-- A commit of a hall over a broker that is refused: why, and what it leaves.
use Rattle.std.specs.Prelude.{◌≡◌, ◌≤◌, true, false, length}
use Rattle.sector_disk.specs.declared.disk.Disk.{Ghosts}
use Rattle.broker_core.specs.declared.broker.Broker.{Broker}
use Rattle.broker_core.specs.declared.error.CommitError.{CommitError}
use Rattle.broker_core.specs.declared.error.CommitError.TheVariants as commit_error
use Rattle.broker_core.specs.Broker.{pending_of, is_broken, IsSameBroker, Breaks}
use Rattle.broker_core.specs.Refusals.{NeedsSwitch, IsWornOut, HasBadTable}
use Rattle.hall_plans.specs.declared.error.HallError.{HallError}
use Rattle.hall_core.specs.Hall.{commit_error_of}

-- the broker is not broken, and something is pending
pub record HasToWrite {D : Type 0} {g : Ghosts D} (broker : Broker D g) : Type 0 where
  pub whole : is_broken broker ≡ false
  pub some : 1 ≤ length (pending_of broker)

-- why the broker committed nothing, and what it is then: only a fault changes it
abbrev pub IsCommitReason : {D : Type 0} {g : Ghosts D} → Broker D g → Broker D g → CommitError → Type 0
IsCommitReason old new commit_error.Broken = (is_broken old ≡ true) × IsSameBroker old new
IsCommitReason old new commit_error.WornOut = HasToWrite old × NeedsSwitch old × IsWornOut old × IsSameBroker old new
IsCommitReason old new commit_error.BadKind = HasToWrite old × NeedsSwitch old × HasBadTable old × IsSameBroker old new
IsCommitReason old new commit_error.OutOfMemory = HasToWrite old × IsSameBroker old new
IsCommitReason old new commit_error.Fault = HasToWrite old × Breaks old new

-- nothing was committed, and the broker has a reason for what is told
abbrev pub IsNotCommitted : {D : Type 0} {g : Ghosts D} → Broker D g → Broker D g → HallError → Type 0
IsNotCommitted old new told = (why : CommitError) × (told ≡ commit_error_of why) × IsCommitReason old new why
