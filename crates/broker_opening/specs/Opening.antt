-- What is done before callers are served: for each attempt that the last stop cut off an Interrupt is issued.
use Rattle.std.specs.Prelude.{◌≡◌, ◌≤◌, ℕ, List, ◌++◌, All, length, take}
use Rattle.sector_disk.specs.Disk.{DiskView, IsSameDisk}
use Rattle.sector_disk.specs.declared.disk.Disk.{Ghosts}
use Rattle.invoke_records.specs.declared.command.Command.{Command}
use Rattle.invoke_records.specs.declared.command.Kind.TheVariants.{Interrupt}
use Rattle.broker_core.specs.declared.broker.Broker.{Broker}
use Rattle.broker_core.specs.Broker.{disk_of, settings_of, Stands}
use Rattle.broker_core.specs.Promises.{ForEachHistoryOn, IsRecovered}
use Rattle.broker_core.specs.Refusals.{HasSwitched}
use Rattle.broker_core.specs.Resume.{AllAtRest}
use Rattle.hall_core.specs.Hall.{HallView, StandsFor}
use Rattle.hall_plans.specs.Past.{opening}

-- it pushes back an attempt that was cut off
abbrev pub IsInterrupt : Command → Type 0
IsInterrupt command = command.kind ≡ Interrupt

-- behind this history interrupts alone were issued
pub record IsInterrupted {D : Type 0} {g : Ghosts D} (view : D → DiskView) (history : List Command) (new : Broker D g) : Type 0 where
  pub interrupts : List Command
  pub are_interrupts : All IsInterrupt interrupts
  pub stands : Stands view new (history ++ interrupts)

-- behind this history interrupts alone were issued, and each event that is held waits, is due again or has ended: nothing runs
pub record ComesToRest {D : Type 0} {g : Ghosts D} (view : D → DiskView) (history : List Command) (new : Broker D g) : Type 0 where
  pub interrupted : IsInterrupted view history new
  pub rests : AllAtRest (settings_of new) (history ++ interrupted.interrupts)

-- a hall to which nothing has come, over a broker that came to rest behind this history
pub record OpensAtRest {D : Type 0} {g : Ghosts D} (view : D → DiskView) (extensions : ℕ) (history : List Command)
    (broker : Broker D g) (hall : HallView) : Type 0 where
  pub rest : ComesToRest view history broker
  pub stands : StandsFor hall (opening extensions (history ++ rest.interrupted.interrupts))

-- the hall came to rest behind a beginning of this history that has all that was durable
pub record RecoversAtRest {D : Type 0} {g : Ghosts D} (view : D → DiskView) (extensions : ℕ) (history : List Command) (durable : ℕ)
    (broker : Broker D g) (hall : HallView) : Type 0 where
  pub size : ℕ
  pub at_least : durable ≤ size
  pub at_most : size ≤ length history
  pub rests : OpensAtRest view extensions (take size history) broker hall

-- what recovery gave of the disk switched once to come to this broker
pub record SwitchesRecovered {D : Type 0} {g : Ghosts D} (view : D → DiskView) (disk : D) (new : Broker D g) : Type 0 where
  pub recovered : Broker D g
  pub same : IsSameDisk (view disk) (view (disk_of recovered))
  pub stands : ForEachHistoryOn (view disk) (λ s history durable. IsRecovered view s history durable recovered)
  pub switched : HasSwitched 1 recovered new
