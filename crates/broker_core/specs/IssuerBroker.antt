-- A broker as an issuer of commands.
use Rattle.std.proofs.Common.{◌≡◌, refl, ap, ◌∙◌}
use Rattle.sector_disk.specs.Disk.{DiskView}
use Rattle.sector_disk.specs.declared.disk.Disk.{Ghosts}
use Rattle.invoke_records.specs.declared.snapshot.Snapshot.{Snapshot}
use Rattle.async_core.specs.laws.Tables.{number-table_of}
use Rattle.broker_core.specs.declared.broker.Broker.{Broker}
use Rattle.broker_core.specs.Broker.{disk_of, settings_of, table_in, pending_of, durable_of, is_broken, Stands}
use Rattle.broker_core.specs.Issuer.{IssuerView, IsIssuer, GoesOn}

-- the broker at a moment, where its disk is seen so
abbrev pub issuer_of : {D : Type 0} {g : Ghosts D} → (D → DiskView) → Broker D g → IssuerView
issuer_of view broker = record {
  settings = settings_of broker;
  table = table_in broker;
  pending = pending_of broker;
  durable = durable_of broker;
  broken = is_broken broker;
  stands = λ history. Stands view broker history;
}

-- a broker is as an issuer has to be
pub issuer_laws : {D : Type 0} {g : Ghosts D} (view : D → DiskView) (broker : Broker D g) → IsIssuer (issuer_of view broker)
issuer_laws view broker = record {
  good = broker.good;
  counted = broker.counted;
  most_issued = broker.below;
  most_pending = broker.few;
  each = λ history stands. record {
    legal = stands.legal;
    table_is = stands.table_is;
    issued_is = ap (λ (t : Snapshot). t.number) stands.table_is ∙ number-table_of (settings_of broker) history;
    durable_is = stands.durable_is;
    pending_is = stands.pending_is;
  };
}

-- its disk was not called
abbrev pub has_same_disk : {D : Type 0} {g : Ghosts D} → Broker D g → Broker D g → Type 0
has_same_disk old new = disk_of new ≡ disk_of old

pub same_disk_goes_on : {D : Type 0} {g : Ghosts D} → GoesOn (has_same_disk {D = D} {g = g})
same_disk_goes_on = record { at_first = λ a. refl; on = λ a b c first second. second ∙ first }
