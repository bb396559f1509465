use Rattle.std.proofs.Common.{◌≡◌, List, Option, None, Some, option_map, refl, sym, ◌∙◌, ap, subst}
use Rattle.invoke_records.specs.declared.command.Command.{Command}
use Rattle.invoke_records.specs.declared.snapshot.Snapshot.{Snapshot}
use Rattle.checkpoint.specs.Image.{parts_of}
use Rattle.checkpoint.specs.Older.{told_parts}
use Rattle.audit_report.specs.declared.report.Older.TheVariants as older
use Rattle.audit_report.specs.Comparison.{TellsOlder}
use Rattle.audit_report.proofs.older.older_of.Goals as goal

pub returns-in-Ok-None-clause-told : goal.returns-in-Ok-None-clause-told
returns-in-Ok-None-clause-told g c honest table was =
    let none : ◌≡◌ {A = Option (Snapshot × List Command)} None (option_map parts_of was.image.older) =
    ap (option_map told_parts) (sym c.in-Ok-None.field-0-is) ∙ (c.in-Ok-None.ensures.live honest table was).0 in
    subst (λ (parts : Option (Snapshot × List Command)). TellsOlder c.args.live.now parts older.None) none refl

pub returns-in-Err-clause-refused : goal.returns-in-Err-clause-refused
returns-in-Err-clause-refused g c honest table was = (c.in-Err.ensures.live honest table was).1

pub returns-in-Ok-clause-told : goal.returns-in-Ok-clause-told
returns-in-Ok-clause-told g c honest table was =
    let some : Some (told_parts c.in-Ok-Some.parts) ≡ option_map parts_of was.image.older =
    ap (option_map told_parts) (sym c.in-Ok-Some.field-0-is) ∙ (c.in-Ok-Some.ensures.live honest table was).0 in
    subst (λ (parts : Option (Snapshot × List Command)). TellsOlder c.args.live.now parts c.in-Ok.told) some (rw c.deref.ensures.value at c.in-Ok.ensures)
