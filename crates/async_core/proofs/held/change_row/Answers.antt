-- What is lent is changed.
use Rattle.std.proofs.Common.{◌≡◌, ◌∙◌, ap, subst}
use Rattle.invoke_records.specs.declared.row.EventRow.{EventRow}
use Rattle.async_core.specs.Ids.{SetsRow}
use Rattle.async_core.specs.Steps.{row_with}
use Rattle.async_core.proofs.KeptRows.{some_injective, is_there}
use Rattle.async_core.proofs.held.change_row.Goals as goal

pub returns-in-Some : goal.returns-in-Some
returns-in-Some c = λ r there.
    let same : c.in-Some.row.now ≡ r = some_injective (c.in-Some.ensures.value ∙ there) in
    let changed : c.update.new.row ≡ row_with c.args.settings.now c.args.number c.args.command.now r = c.update.ensures (c.requires.answer _) ∙ ap (row_with c.args.settings.now c.args.number c.args.command.now) same in
    let holds = c.get_mut.follows.holds c.update.new.row in
    subst (λ (w : EventRow). SetsRow c.args.rows.now c.args.place w (c.get_mut.follows.lender c.update.new.row)) changed (holds.0, holds.3 (is_there _ r there), holds.4)
