-- Laws: a disk that was migrated or copied goes on with what was told.
use Rattle.std.proofs.Common.{◌≡◌, ℕ, List, length, subst}
use Rattle.sector_disk.specs.Disk.{DiskView}
use Rattle.retry_rules.specs.declared.settings.Settings.{Settings}
use Rattle.invoke_records.specs.declared.snapshot.Snapshot.{Snapshot}
use Rattle.invoke_records.specs.declared.command.Command.{Command}
use Rattle.async_core.specs.History.{table_of}
use Rattle.checkpoint.specs.Live.{RecoversTo}
use Rattle.group_commit.specs.Migrating.{Migrates}
use Rattle.disk_copy.specs.Copying.{GoesOnWith}
use Rattle.promises.specs.Promises.{GoesOn, Leaves}
use Rattle.promises.specs.laws.Disks.{legal_stop_leaves}

pub migrated_leaves : (old new : DiskView) (m : Migrates old new) (point : ℕ) (history later : List Command) (image : List ℕ) → GoesOn m.settings point history later → m.table ≡ table_of m.settings later → new.may_leave image
    → Leaves m.settings point history image
migrated_leaves old new m point history later image goes is may = record {
  after = later;
  goes_on = goes;
  recovers = subst (λ (t : Snapshot). RecoversTo m.settings t image) is (m.recovers image may);
}

pub copied_leaves : (disk : DiskView) (s now : Settings) (point : ℕ) (history later : List Command) (image : List ℕ) → GoesOnWith disk now later → GoesOn s point history later → disk.may_leave image → Leaves now point history image
copied_leaves disk s now point history later image copied goes may =
    legal_stop_leaves now point (length later) history later image (record { legal = copied.legal; reaches = goes.reaches; begins = goes.begins }) goes.reaches (copied.stops image may)
