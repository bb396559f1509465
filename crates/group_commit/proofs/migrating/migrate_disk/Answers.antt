use Rattle.std.proofs.Common.{inl}
use Rattle.std.proofs.lemmas.Result.{IfErr-weaker}
use Rattle.checkpoint.specs.Live.{version_of}
use Rattle.group_commit.proofs.Migrated.{leaves_migrating, migrates, on_both, unwritten, sound_unwritten, unchanged, unchanged_or, all_read, one_behind}
use Rattle.group_commit.proofs.migrating.migrate_disk.Goals as goal

pub returns-in-Err-clause-any_moment : goal.returns-in-Err-clause-any_moment
returns-in-Err-clause-any_moment g c honest = inl (c.open_old.ensures.any_moment honest)

pub returns-in-Ok-clause-any_moment : goal.returns-in-Ok-clause-any_moment
returns-in-Ok-clause-any_moment g c honest =
    let opened = c.in-Ok.opened in
    let mid_honest = c.open_old.ensures.same.honest.1 honest in
    leaves_migrating (g.D.Disk.view c.args.disk.now) (g.D.Disk.view c.open_old.new.disk) (g.D.Disk.view c.write_new.new.disk) opened c.in-Ok.table.table (c.open_old.ensures.any_moment honest)
    (c.in-Ok.ensures.old honest) (c.write_new.ensures.any_moment mid_honest (version_of opened) (c.in-Ok.ensures.live honest))

pub returns-in-Ok-clause-migrated : goal.returns-in-Ok-clause-migrated
returns-in-Ok-clause-migrated g c honest =
    let opened = c.in-Ok.opened in
    let mid_honest = c.open_old.ensures.same.honest.1 honest in
    on_both c.write_new.result
    (λ live more. migrates (g.D.Disk.view c.args.disk.now) (g.D.Disk.view c.open_old.new.disk) (g.D.Disk.view c.write_new.new.disk) opened c.in-Ok.table.table
    (c.open_old.ensures.any_moment honest) (c.in-Ok.ensures.old honest) (c.write_new.ensures.any_moment mid_honest (version_of opened) (c.in-Ok.ensures.live honest))
    c.write_new.new.opened c.write_new.ensures.kept more live)
    (c.write_new.ensures.written mid_honest (version_of opened) (c.in-Ok.ensures.live honest)) c.write_new.ensures.next

pub returns-in-Ok-clause-reason : goal.returns-in-Ok-clause-reason
returns-in-Ok-clause-reason g c honest =
    IfErr-weaker c.write_new.result _ _ (λ why is. unwritten (g.D.Disk.view c.args.disk.now) _ _ _ why (c.in-Ok.ensures.old honest) is) c.write_new.ensures.unwritten

pub returns-in-Ok-clause-sound : goal.returns-in-Ok-clause-sound
returns-in-Ok-clause-sound g c honest holds =
    IfErr-weaker c.write_new.result _ _
    (λ why is. sound_unwritten (g.D.Disk.view c.args.disk.now) _ _ _ why (g.met.D.Disk.laws c.args.disk.now honest).reads_an_image holds (c.in-Ok.ensures.old honest) c.in-Ok.ensures.good c.in-Ok.ensures.below is)
    c.write_new.ensures.unwritten

pub returns-in-Err-clause-nothing : goal.returns-in-Err-clause-nothing
returns-in-Err-clause-nothing g c honest =
    unchanged (g.D.Disk.view c.args.disk.now) (g.D.Disk.view c.open_old.new.disk) c.in-Err.why (c.open_old.ensures.content honest, c.open_old.ensures.any_moment honest)

pub returns-in-Ok-clause-nothing : goal.returns-in-Ok-clause-nothing
returns-in-Ok-clause-nothing g c honest =
    IfErr-weaker c.write_new.result _ _
    (λ why is. unchanged_or g.D.Disk.view (g.D.Disk.view c.args.disk.now) c.open_old.new.disk c.write_new.new.disk why (c.open_old.ensures.content honest, c.open_old.ensures.any_moment honest) is)
    c.write_new.ensures.no_call

pub returns-in-Ok-clause-one : goal.returns-in-Ok-clause-one
returns-in-Ok-clause-one g c honest =
    IfErr-weaker c.write_new.result _ _
    (λ why is. one_behind g.D.Disk.view c.open_old.new.disk c.write_new.new.disk why (all_read (g.D.Disk.view c.open_old.new.disk) c.in-Ok.opened c.in-Ok.table.table (c.in-Ok.ensures.live honest)) is)
    c.write_new.ensures.no_call
