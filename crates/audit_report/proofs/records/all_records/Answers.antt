use Rattle.std.proofs.Common.{◌≡◌, ◌∙◌, ap, lit<}
use Rattle.invoke_records.specs.declared.snapshot.Snapshot.{Snapshot}
use Rattle.audit_report.proofs.AllTold.{AreRecords-from_told}
use Rattle.audit_report.proofs.records.all_records.Goals as goal

pub returns-in-None : goal.returns-in-None
returns-in-None c =
    let rows = c.as_slice-rows.result.now in
    let rows_is : rows ≡ c.args.table.now.table.rows = c.as_slice-rows.ensures ∙ ap (λ (table : Snapshot). table.rows) c.in_ok-snapshot.ensures in
    let are = AreRecords-from_told c.settings.result.now rows c.in-Ok.page 18446744073709551615 18446744073709551615 c.in_ok-text.text.items c.in_ok-text.next (lit< tt)
    c.in-Ok.ensures.page c.in_ok-text.ensures c.in-None.is in
    rw (c.settings.ensures, rows_is) at are
