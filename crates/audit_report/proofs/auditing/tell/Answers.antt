use Rattle.std.proofs.Common.{sym, subst}
use Rattle.audit_report.specs.declared.counting.Counts.{Counts}
use Rattle.audit_report.specs.declared.report.Older.{Older}
use Rattle.std.proofs.Common.{option_map}
use Rattle.checkpoint.specs.Image.{parts_of}
use Rattle.audit_report.specs.Counts.{AreCounts}
use Rattle.audit_report.specs.Comparison.{TellsOlder}
use Rattle.audit_report.proofs.Audits.{is_audit}
use Rattle.audit_report.proofs.auditing.tell.Goals as goal

pub returns-in-Err-clause-refused : goal.returns-in-Err-clause-refused
returns-in-Err-clause-refused g c honest bytes leads = c.in-Err.ensures.refused honest leads.table leads.live

pub returns-clause-exact : goal.returns-clause-exact
returns-clause-exact g c honest bytes leads =
    let report = c.report_of-report.ensures in
    let live = c.args.live in
    is_audit live c.args.commands.now c.args.opened.now (g.D.Disk.view c.args.disk.now) bytes leads c.apply_all.new.table c.apply_all.ensures.settings c.in-Ok-apply_all.field-0
    c.in-Ok-apply_all.ensures.replayed c.report_of-report.result report.opened report.number
    (subst (λ (counts : Counts). AreCounts c.apply_all.new.table.table.rows counts) (sym report.counts) c.in-Ok-counts_of.ensures)
    (subst (λ (told : Older). TellsOlder live (option_map parts_of leads.live.image.older) told) (sym report.older) (c.in-Ok.ensures.told honest leads.table leads.live))
    report.in_force
