use Rattle.std.proofs.Common.{◌≡◌, ℕ, ◌+◌, ◌<◌, List, length, drop, get_or, Option, Some, None, Result, Ok, Err, refl, sym, ap, ◌∙◌}
use Rattle.std.proofs.Math.ListN.{drop_of_length-le}
use Rattle.std.proofs.lemmas.List.{at_drop_more}
use Rattle.std.proofs.lemmas.Result.{err_from_is_err_and}
use Rattle.invoke_records.specs.declared.row.EventRow.{EventRow}
use Rattle.invoke_records.specs.declared.error.RecordError.{RecordError}
use Rattle.invoke_records.specs.Spelling.{row_fault, rows_fault, first_of_two}
use Rattle.invoke_records.specs.Reading.{sound}
use Rattle.invoke_records.proofs.snapshot_writing.check_rows.Goals as goal

-- a row, and the rows behind it
at_row : (rows : List EventRow) (i : ℕ) (row : EventRow) → i < length rows → row ≡ get_or rows i row → rows_fault (drop i rows) ≡ first_of_two (row_fault row) (rows_fault (drop (i + 1) rows))
at_row rows i row within is =
    at_drop_more rows_fault rows i row within ∙ ap (λ (r : EventRow). first_of_two (row_fault r) (rows_fault (drop (i + 1) rows))) (sym is)

passed : (first rest : Option RecordError) → ◌≡◌ {A = Result (Unit {0}) RecordError} (Ok tt) (sound first tt) → first_of_two first rest ≡ rest
passed None rest is = refl
passed (Some e) rest is = absurd cc

stopped : (first rest : Option RecordError) (e : RecordError) → ◌≡◌ {A = Result (Unit {0}) RecordError} (Err e) (sound first tt) → first_of_two first rest ≡ Some e
stopped None rest e is = absurd cc
stopped (Some f) rest e is = cc

pub loop-row-preserved : goal.loop-row-preserved
loop-row-preserved c =
    sym (at_row c.args.rows.now c.loop-row.row-index c.row-item.result c.loop-row-test.true c.row-item.is ∙ passed _ _ c.in_ok-check_row.ensures) ∙ c.loop-row.invariant

pub returns-in_err-check_row : goal.returns-in_err-check_row
returns-in_err-check_row c =
    let p = err_from_is_err_and c.from_residual.result c.from_residual.ensures.1 in
    let told : rows_fault c.args.rows.now ≡ Some c.in_err-check_row.field-0.0 =
    sym c.loop-row.invariant ∙ at_row c.args.rows.now c.loop-row.row-index c.row-item.result c.loop-row-test.true c.row-item.is ∙ stopped _ _ _ c.in_err-check_row.ensures in
    rw (p.1, p.2) (ap (λ (f : Option RecordError). sound f tt) (sym told))

pub returns : goal.returns
returns c =
    let none : rows_fault c.args.rows.now ≡ None = sym c.loop-row.invariant ∙ ap rows_fault (drop_of_length-le c.args.rows.now c.loop-row-test.false) in
    ap (λ (f : Option RecordError). sound f tt) (sym none)
