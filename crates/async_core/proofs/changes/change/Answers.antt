-- A command of any other kind changes the row of its event.
use Rattle.std.proofs.Common.{◌≡◌, List, subst, OnOk}
use Rattle.invoke_records.specs.declared.row.EventRow.{EventRow}
use Rattle.async_core.proofs.Ranks.{other_rows}
use Rattle.async_core.proofs.changes.change.Goals as goal

pub returns-in_ok-answer-in_default : goal.returns-in_ok-answer-in_default
returns-in_ok-answer-in_default c = record {
  ok = subst (λ (rows : List EventRow). OnOk c.change.result (c.change.new.self ≡ rows)) (other_rows c.args.settings.now c.args.policy c.args.number c.args.command.now c.args.held.now c.args.command.now.kind c.in_default.not-Accept c.in_default.not-Collect c.in_default.not-Configure) c.change.ensures.ok;
  err = c.change.ensures.err;
}
