use Rattle.std.proofs.Common.{sym, ◌∙◌}
use Rattle.std.proofs.lemmas.Result.{err_from_is_err_and}
use Rattle.checkpoint.proofs.Versions.{version_two, told_old, is_recovered, tells_not_formatted, tells_damage, tells_no_old, new_room}
use Rattle.checkpoint.proofs.opening.open.Goals as goal

pub returns-clause-room : goal.returns-clause-room
returns-clause-room g c = new_room _ c.in_ok-opened.opened (version_two _ (sym c.is_old.ensures ∙ c.if-is_old.false)) c.in_ok-opened.ensures.room

pub returns-clause-live : goal.returns-clause-live
returns-clause-live g c honest =
    is_recovered (g.D.Disk.view c.args.disk.now) (g.D.Disk.view c.open_either.new.disk) c.in_ok-opened.opened c.in_ok-opened.snapshot c.in_ok-opened.commands.items
    (version_two _ (sym c.is_old.ensures ∙ c.if-is_old.false)) (c.in_ok-opened.ensures.live honest)

pub returns-then-is_old-clause-old_version : goal.returns-then-is_old-clause-old_version
returns-then-is_old-clause-old_version g c honest is =
    told_old (g.D.Disk.view c.args.disk.now) (g.D.Disk.view c.open_either.new.disk) c.in_ok-opened.opened c.in_ok-opened.snapshot c.in_ok-opened.commands.items
    (sym c.is_old.ensures ∙ c.if-is_old.true) (c.in_ok-opened.ensures.live honest)

pub returns-in_err-opened-clause-not_formatted : goal.returns-in_err-opened-clause-not_formatted
returns-in_err-opened-clause-not_formatted g c =
    let p = err_from_is_err_and c.from_residual.result c.from_residual.ensures.1 in
    rw (p.1, p.2) (tells_not_formatted (g.D.Disk.view c.args.disk.now) c.in_err-opened.field-0.0 c.in_err-opened.ensures.refused)

pub returns-in_err-opened-clause-damaged : goal.returns-in_err-opened-clause-damaged
returns-in_err-opened-clause-damaged g c =
    let p = err_from_is_err_and c.from_residual.result c.from_residual.ensures.1 in
    rw (p.1, p.2) (tells_damage (g.D.Disk.view c.args.disk.now) c.in_err-opened.field-0.0 c.in_err-opened.ensures.refused)

pub returns-in_err-opened-clause-old_version : goal.returns-in_err-opened-clause-old_version
returns-in_err-opened-clause-old_version g c =
    let p = err_from_is_err_and c.from_residual.result c.from_residual.ensures.1 in
    rw (p.1, p.2) (tells_no_old (g.D.Disk.view c.args.disk.now) c.in_err-opened.field-0.0 c.in_err-opened.ensures.old)
