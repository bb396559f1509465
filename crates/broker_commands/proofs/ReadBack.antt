-- What is told of a disk that was migrated and read back.
use Rattle.std.proofs.Common.{◌≡◌, ℕ, ◌+◌, List, Result, Ok, Err, sym, ap, subst, ◌∙◌}
use Rattle.std.specs.Prelude.{IsOkAnd}
use Rattle.sector_disk.specs.Disk.{DiskView}
use Rattle.retry_rules.specs.declared.settings.Settings.{Settings}
use Rattle.invoke_records.specs.declared.snapshot.Snapshot.{Snapshot}
use Rattle.invoke_records.specs.declared.version.Version.{Version}
use Rattle.async_core.specs.State.{State}
use Rattle.checkpoint.specs.declared.error.OpenError.{OpenError}
use Rattle.checkpoint.specs.Image.{DiskImage, read_image, HasGeneration}
use Rattle.checkpoint.specs.ReadSteps.{live_read}
use Rattle.checkpoint.specs.Live.{RecoversTo, is_new}
use Rattle.group_commit.specs.Migrating.{Migrates}
use Rattle.audit_report.specs.declared.report.Report.{Report}
use Rattle.audit_report.specs.Report.{IsReportOn}
use Rattle.broker_commands.specs.Migrating.{IsMigrated}

table_read : Snapshot → Result (Version × State) OpenError → Snapshot
table_read other (Ok (version, state)) = state.table
table_read other (Err why) = other

-- bytes that recover to a table are read as an image of it
table_there : (s : Settings) (table : Snapshot) (bytes : List ℕ) (image : DiskImage) → RecoversTo s table bytes → read_image bytes ≡ Ok image
    → image.live.table ≡ table
unfolding table_read
table_there s table bytes image recovers reads = ap (table_read table) (sym (ap live_read reads) ∙ is_new s table bytes recovers)

generation_there : (generation : ℕ) (bytes : List ℕ) (image : DiskImage) → HasGeneration generation bytes → read_image bytes ≡ Ok image
    → image.live.generation ≡ generation
generation_there generation bytes image has reads =
    subst (λ (r : Result DiskImage OpenError). IsOkAnd r (λ i. i.live.generation ≡ generation)) reads has

-- what is told of it then is what the old disk held
pub migrated : (old new : DiskView) (report : Report) → new.may_leave new.content → Migrates old new → IsReportOn new.content report
    → IsMigrated old (record { generation = report.generation; number = report.number })
migrated old new report left made on =
    let table = table_there made.settings made.table new.content on.image (made.recovers new.content left) on.reads in
    let generation = generation_there (made.generation + 1) new.content on.image made.next on.reads in
    record {
      settings = made.settings;
      table = made.table;
      generation = made.generation;
      was = made.was;
      number = on.tells.number ∙ ap (λ (t : Snapshot). t.number) table;
      next = on.tells.generation ∙ generation;
    }
