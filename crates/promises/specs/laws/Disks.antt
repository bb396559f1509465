-- Laws: what a stop leaves on a disk goes on with what was told.
use Rattle.std.proofs.Common.{ℕ, ◌≤◌, List, take, ◌∙◌, arith}
use Rattle.sector_disk.specs.Disk.{DiskView}
use Rattle.sector_disk.specs.declared.disk.Disk.{Ghosts}
use Rattle.retry_rules.specs.declared.settings.Settings.{Settings}
use Rattle.invoke_records.specs.declared.command.Command.{Command}
use Rattle.broker_core.specs.declared.broker.Broker.{Broker}
use Rattle.broker_core.specs.History.{IsLegalStop}
use Rattle.broker_core.specs.Broker.{disk_of, settings_of, durable_of, issued_of, Stands}
use Rattle.promises.specs.Promises.{Telling, issued, WasAnswered202, GoesOn, Leaves, LeavesEvent}
use Rattle.promises.specs.laws.Histories.{goes_on_stopped, take_take}
use Rattle.promises.specs.laws.Promised.{event_is_kept}

pub legal_stop_leaves : (now : Settings) (point durable : ℕ) (history later : List Command) (image : List ℕ) → GoesOn now point history later → point ≤ durable → IsLegalStop now later durable image → Leaves now point history image
legal_stop_leaves now point durable history later image goes le stop = record {
  after = take stop.size later;
  goes_on = goes_on_stopped now point stop.size history later (omega (arith, le, stop.least)) goes;
  recovers = stop.recovers;
}

pub leaves_event : (s now : Settings) (t : Telling s) (id payload image : List ℕ) → WasAnswered202 s t id payload → Leaves now t.point (issued s t) image → LeavesEvent s now t id payload image
leaves_event s now t id payload image was stop = (stop, event_is_kept s now t id payload stop.after was stop.goes_on)

module _ {D : Type 0} {g : Ghosts D} (view : D → DiskView) (broker : Broker D g) (point : ℕ) (history later : List Command) (honest : (view (disk_of broker)).honest) (image : List ℕ) (may : (view (disk_of broker)).may_leave image) where
  pub broker_leaves : GoesOn (settings_of broker) point history later → point ≤ durable_of broker → Stands view broker later → Leaves (settings_of broker) point history image
  broker_leaves goes le stands = legal_stop_leaves (settings_of broker) point (durable_of broker) history later image goes le (stands.stops honest image may)

  -- the broker of the half over the disk has the front of the history
  pub half_leaves : (other : Settings) → GoesOn other point history later → point ≤ durable_of broker → Stands view broker (take (issued_of broker) later) → Leaves (settings_of broker) point history image
  half_leaves other goes le stands =
      let front = take (issued_of broker) later in
      let most : point ≤ issued_of broker = omega (arith, le, broker.counted) in
      legal_stop_leaves (settings_of broker) point (durable_of broker) history front image
      (record { legal = stands.legal; reaches = omega (arith, le, stands.durable_is); begins = take_take point (issued_of broker) later most goes.reaches ∙ goes.begins })
      le (stands.stops honest image may)
