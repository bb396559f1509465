use Rattle.std.proofs.Common.{subst}
use Rattle.sector_disk.specs.laws.Moments.{started, leaves_weaker}
use Rattle.invoke_records.specs.declared.snapshot.Snapshot.{Snapshot}
use Rattle.checkpoint.specs.Live.{IsLive, settings_of, live_reads}
use Rattle.group_commit.specs.Migrating.{ReadsTo}
use Rattle.group_commit.proofs.Migrated.{reads_to}
use Rattle.group_commit.proofs.migrating.write_new.Goals as goal

pub returns-in_default-clause-any_moment : goal.returns-in_default-clause-any_moment
returns-in_default-clause-any_moment g c honest version live =
    (started g.D.Disk.view g.met.D.Disk.laws c.args.disk.now (ReadsTo (settings_of c.args.opened.now) c.args.table.now.table) honest (λ image left. (version, live_reads version _ _ _ live image left))).leaves

pub returns-in-Ok-switch-clause-any_moment : goal.returns-in-Ok-switch-clause-any_moment
returns-in-Ok-switch-clause-any_moment g c honest version live =
    leaves_weaker _ (reads_to version (settings_of c.args.opened.now) c.args.table.now.table c.in-Ok.snapshot c.in-Ok.ensures)
    (c.switch.ensures.any_moment_either honest version c.args.table.now.table live)

pub returns-in-Err-BadKind-clause-any_moment : goal.returns-in-Err-BadKind-clause-any_moment
returns-in-Err-BadKind-clause-any_moment g c honest version live =
    leaves_weaker _ (reads_to version (settings_of c.args.opened.now) c.args.table.now.table c.in-Ok.snapshot c.in-Ok.ensures)
    (c.switch.ensures.any_moment_either honest version c.args.table.now.table live)

pub returns-in-Err-OutOfMemory-clause-any_moment : goal.returns-in-Err-OutOfMemory-clause-any_moment
returns-in-Err-OutOfMemory-clause-any_moment g c honest version live =
    leaves_weaker _ (reads_to version (settings_of c.args.opened.now) c.args.table.now.table c.in-Ok.snapshot c.in-Ok.ensures)
    (c.switch.ensures.any_moment_either honest version c.args.table.now.table live)

pub returns-clause-any_moment : goal.returns-clause-any_moment
returns-clause-any_moment g c honest version live =
    leaves_weaker _ (reads_to version (settings_of c.args.opened.now) c.args.table.now.table c.in-Ok.snapshot c.in-Ok.ensures)
    (c.switch.ensures.any_moment_either honest version c.args.table.now.table live)

pub returns-in-Ok-switch-clause-written : goal.returns-in-Ok-switch-clause-written
returns-in-Ok-switch-clause-written g c honest version live =
    subst (λ (t : Snapshot). IsLive (g.D.Disk.view c.switch.new.disk) c.switch.new.opened t) c.in-Ok.ensures
    (c.in-Ok-switch.ensures.switched_either honest version c.args.table.now.table live)
