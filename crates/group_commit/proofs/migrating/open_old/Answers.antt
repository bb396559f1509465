use Rattle.std.proofs.Common.{◌≡◌, sym, ap, subst, ◌∙◌, arith, Some, Err}
use Rattle.group_commit.specs.declared.error.MigrateError.{MigrateError}
use Rattle.group_commit.specs.declared.error.MigrateError.TheVariants as migrate_error
use Rattle.group_commit.specs.Migrating.{IsMigrateReason, IsSoundRefusal, HoldsOneWhere}
use Rattle.group_commit.specs.MigrateSteps.{IsJudged}
use Rattle.group_commit.proofs.Migrated.{unopened, fault_of, sound_unopened, old_disk, judged_reason, judged_sound, none_held, one_held, all_read}
use Rattle.group_commit.proofs.migrating.open_old.Goals as goal

pub returns-in-Err-clause-fault : goal.returns-in-Err-clause-fault
returns-in-Err-clause-fault g c is =
    let new = λ (e : _). c.in-Err.ensures.old (ap Err e) in
    c.in-Err.ensures.fault (ap Err (fault_of c.in-Err.why new (sym c.unopened.ensures ∙ cc)))

pub returns-in-Err-clause-reason : goal.returns-in-Err-clause-reason
returns-in-Err-clause-reason g c honest =
    let disk = g.D.Disk.view c.args.disk.now in
    subst (λ (e : MigrateError). IsMigrateReason disk e) (sym c.unopened.ensures)
    (unopened disk c.in-Err.why (λ e. c.in-Err.ensures.old (ap Err e)) (c.in-Err.ensures.refused honest))

pub returns-in-Err-clause-sound : goal.returns-in-Err-clause-sound
returns-in-Err-clause-sound g c honest holds =
    let disk = g.D.Disk.view c.args.disk.now in
    subst IsSoundRefusal (sym c.unopened.ensures)
    (sound_unopened disk c.in-Err.why (g.met.D.Disk.laws c.args.disk.now honest).reads_an_image holds (λ e. c.in-Err.ensures.old (ap Err e)) (c.in-Err.ensures.refused honest))

pub returns-in-Err-clause-one : goal.returns-in-Err-clause-one
returns-in-Err-clause-one g c honest =
    let disk = g.D.Disk.view c.recover_either.new.disk in
    subst (λ (e : MigrateError). HoldsOneWhere disk e) (sym c.unopened.ensures) (none_held disk c.in-Err.why)

pub returns-in-None-clause-room : goal.returns-in-None-clause-room
returns-in-None-clause-room g c = record { least = c.in-None.ensures.1; end = c.in-Ok.ensures.room.end }

pub returns-in-None-clause-old : goal.returns-in-None-clause-old
returns-in-None-clause-old g c honest =
    old_disk (g.D.Disk.view c.args.disk.now) (g.D.Disk.view c.recover_either.new.disk) c.in-Ok.opened c.in-Ok.table.table (c.recover_either.ensures.content honest) c.in-None.ensures.0 (c.in-Ok.ensures.live honest)

pub returns-in-None-clause-live : goal.returns-in-None-clause-live
returns-in-None-clause-live g c honest = (c.in-Ok.ensures.live honest).1

pub returns-in-Some-clause-fault : goal.returns-in-Some-clause-fault
returns-in-Some-clause-fault g c is =
    let wrong : c.in-Some.why ≡ migrate_error.Fault = cc in
    absurd (subst (λ (e : MigrateError). IsJudged (g.D.Disk.view c.recover_either.new.disk).sectors c.in-Ok.opened (Some e)) wrong c.in-Some.ensures)

pub returns-in-Some-clause-reason : goal.returns-in-Some-clause-reason
returns-in-Some-clause-reason g c honest =
    judged_reason (g.D.Disk.view c.args.disk.now) (g.D.Disk.view c.recover_either.new.disk) c.in-Ok.opened c.in-Ok.table.table c.in-Some.why (c.recover_either.ensures.content honest)
    (omega (arith, c.recover_either.ensures.same.sectors)) (c.in-Ok.ensures.live honest) c.in-Some.ensures

pub returns-in-Some-clause-sound : goal.returns-in-Some-clause-sound
returns-in-Some-clause-sound g c honest holds = judged_sound (g.D.Disk.view c.recover_either.new.disk).sectors c.in-Ok.opened c.in-Some.why c.in-Some.ensures

pub returns-in-Some-clause-one : goal.returns-in-Some-clause-one
returns-in-Some-clause-one g c honest =
    let disk = g.D.Disk.view c.recover_either.new.disk in
    one_held disk c.in-Some.why (all_read disk c.in-Ok.opened c.in-Ok.table.table (c.in-Ok.ensures.live honest).1)
