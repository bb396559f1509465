-- How far a broker gets that stages and opens. Names only steps of private functions: a reader of the public contracts need not
-- believe it.
use Rattle.std.specs.Prelude.{◌≡◌, ◌⊎◌, ℕ, ◌+◌, ◌≤◌, List, length, take, drop, Option, None, Some, IfSome}
use Rattle.sector_disk.specs.Disk.{DiskView}
use Rattle.sector_disk.specs.Moments.{LeavesOnly}
use Rattle.sector_disk.specs.declared.disk.Disk.{Ghosts}
use Rattle.invoke_records.specs.declared.snapshot.Snapshot.{Snapshot}
use Rattle.invoke_records.specs.declared.command.Command.{Command}
use Rattle.async_core.specs.Rules.{replay}
use Rattle.gate_journal.specs.declared.staged.Staged.{Staged}
use Rattle.gate_journal.specs.Staged.{count_of}
use Rattle.checkpoint.specs.declared.opened.Opened.{Opened}
use Rattle.checkpoint.specs.Live.{RecoversToEither, IsLive}
use Rattle.checkpoint.specs.Ahead.{IsLiveAhead}
use Rattle.broker_core.specs.declared.broker.Broker.{Broker}
use Rattle.broker_core.specs.Broker.{disk_of, settings_of, table_in, pending_of, durable_of, is_broken, opened_of, staged_of, Commits}
use Rattle.broker_core.specs.Refusals.{HasSwitched}
use Rattle.broker_core.specs.Advancing.{HasOpened}

-- the disk is live with a table, and what is staged comes behind it
pub record IsLiveWith (disk : DiskView) (opened : Opened) (table : Snapshot) (pending : List Command) (staged : Option Staged) : Type 0 where
  pub live : IsLive disk opened table
  pub ahead : IfSome staged (λ group. IsLiveAhead disk opened table (take (count_of group) pending) group)

-- all that was pending is staged, or else durable
abbrev pub StagesAs : {D : Type 0} {g : Ghosts D} → Option Staged → Broker D g → Broker D g → Type 0
StagesAs None old new = Commits old new (durable_of new)
StagesAs (Some group) old new =
    (settings_of new ≡ settings_of old) × (table_in new ≡ table_in old) × (pending_of new ≡ pending_of old)
    × (durable_of new ≡ durable_of old) × (is_broken new ≡ is_broken old) × (opened_of new ≡ opened_of old)
    × (count_of group ≡ length (pending_of new))

-- the table that a disk is live with where something is staged, or where all is durable
abbrev pub table_with : Option Staged → Snapshot → Snapshot → Snapshot
table_with None before after = after
table_with (Some group) before after = before

-- a staged group is durable, and what else was pending still is
pub record OpensFront {D : Type 0} {g : Ghosts D} (old new : Broker D g) (group : Staged) : Type 0 where
  pub settings : settings_of new ≡ settings_of old
  pub table : table_in new ≡ table_in old
  pub pending : pending_of new ≡ drop (count_of group) (pending_of old)
  pub durable : durable_of new ≡ durable_of old + count_of group
  pub broken : is_broken new ≡ is_broken old
  pub switched : HasSwitched 0 old new

-- this holds of the table on an honest disk with a staged group behind it, and of that to which the group leads
abbrev pub ForBothFronts : {D : Type 0} {g : Ghosts D} → (D → DiskView) → Broker D g → Staged → (Snapshot → Snapshot → Type 0) → Type 0
ForBothFronts view broker group P =
    (view (disk_of broker)).honest → (before after : Snapshot)
    → IsLiveAhead (view (disk_of broker)) (opened_of broker) before (take (count_of group) (pending_of broker)) group
    → replay (settings_of broker) before (take (count_of group) (pending_of broker)) ≡ Some after → P before after

-- at any moment since the broker was this one, a stop leaves one of these tables
abbrev pub LeavesOneOf : {D : Type 0} {g : Ghosts D} → (D → DiskView) → Broker D g → Broker D g → Snapshot → Snapshot → Type 0
LeavesOneOf view old new before after =
    LeavesOnly (view (disk_of old)) (view (disk_of new)) (RecoversToEither (settings_of old) before after)

-- what was staged is durable, and what is staged now comes behind it
pub record GoesOn {D : Type 0} {g : Ghosts D} (old new : Broker D g) : Type 0 where
  pub settings : settings_of new ≡ settings_of old
  pub table : table_in new ≡ table_in old
  pub broken : is_broken new ≡ is_broken old
  pub later : durable_of old ≤ durable_of new
  pub opened : HasOpened (staged_of old) (staged_of new) old new
  pub switched : HasSwitched 0 old new ⊎ HasSwitched 1 old new
