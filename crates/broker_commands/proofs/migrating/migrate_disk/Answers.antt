-- What is read back is what all images recover to.
use Rattle.broker_commands.proofs.ReadBack.{migrated}
use Rattle.broker_commands.proofs.migrating.migrate_disk.Goals as goal

pub returns-in-Ok-audit-clause-told : goal.returns-in-Ok-audit-clause-told
returns-in-Ok-audit-clause-told g c honest =
    let there = c.in-Ok.ensures.same.honest.1 honest in
    migrated (g.D.Disk.view c.args.disk) (g.D.Disk.view c.in-Ok.disk) c.in-Ok-audit.report (g.met.D.Disk.laws c.in-Ok.disk there).reads_an_image
    (c.in-Ok.ensures.migrated honest) (c.in-Ok-audit.ensures.exact there)
