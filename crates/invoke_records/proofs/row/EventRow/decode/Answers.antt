use Rattle.std.proofs.Common.{◌≡◌, ◌++◌, List, ℕ, Result, Ok, sym, ap, subst, ◌∙◌, refl, arith}
use Rattle.std.proofs.lemmas.Result.{err_from_is_err_and}
use Rattle.invoke_records.specs.declared.row.EventRow.{EventRow}
use Rattle.invoke_records.specs.declared.version.Version.TheVariants.{Two}
use Rattle.invoke_records.specs.declared.error.RecordError.{RecordError}
use Rattle.invoke_records.specs.Spelling.{row_text}
use Rattle.invoke_records.specs.Reading.{Misses, row_at}
use Rattle.invoke_records.specs.laws.Fields.{ok_is, taken_most, taken_size, taken_rest}
use Rattle.invoke_records.specs.laws.Rows.{row_takes, row_again}
use Rattle.invoke_records.proofs.row.EventRow.decode.Goals as goal

abbrev pair : EventRow → List ℕ → EventRow × List ℕ
pair row rest = (row, rest)

abbrev good : EventRow → List ℕ → Result (EventRow × List ℕ) RecordError
good row rest = Ok (row, rest)

pub returns-in_err-row-clause-only : goal.returns-in_err-row-clause-only
returns-in_err-row-clause-only c = λ d rest is e.
    let p = err_from_is_err_and c.from_residual.result c.from_residual.ensures.1 in
    let read : row_at Two c.args.bytes.now ≡ good d rest = ap (row_at Two) e ∙ row_again d rest is in
    rw (p.1, p.2) (subst (Misses c.in_err-row.field-0.0) read c.in_err-row.ensures)

pub overflow_sub-len : goal.overflow_sub-len
overflow_sub-len c =
    let t = row_takes c.args.bytes.now (pair c.in_ok-row.row c.in_ok-row.rest.now) (λ i. omega (arith, c.type_inv.bytes i)) c.in_ok-row.ensures in
    taken_most c.args.bytes.now (row_text c.in_ok-row.row) c.in_ok-row.rest.now t.0

pub returns-clause-exact : goal.returns-clause-exact
returns-clause-exact c =
    let t = row_takes c.args.bytes.now (pair c.in_ok-row.row c.in_ok-row.rest.now) (λ i. omega (arith, c.type_inv.bytes i)) c.in_ok-row.ensures in
    c.in_ok-row.ensures ∙ ap (good c.in_ok-row.row) (sym (taken_rest c.args.bytes.now (row_text c.in_ok-row.row) c.in_ok-row.rest.now _ refl t.0))

pub returns-clause-spelled : goal.returns-clause-spelled
returns-clause-spelled c = (row_takes c.args.bytes.now (pair c.in_ok-row.row c.in_ok-row.rest.now) (λ i. omega (arith, c.type_inv.bytes i)) c.in_ok-row.ensures).1

pub returns-clause-size : goal.returns-clause-size
returns-clause-size c =
    let t = row_takes c.args.bytes.now (pair c.in_ok-row.row c.in_ok-row.rest.now) (λ i. omega (arith, c.type_inv.bytes i)) c.in_ok-row.ensures in
    taken_size c.args.bytes.now (row_text c.in_ok-row.row) c.in_ok-row.rest.now _ refl t.0

pub returns-clause-found : goal.returns-clause-found
returns-clause-found c =
    let t = row_takes c.args.bytes.now (pair c.in_ok-row.row c.in_ok-row.rest.now) (λ i. omega (arith, c.type_inv.bytes i)) c.in_ok-row.ensures in
    t.0.parts ∙ ap (λ (r : List ℕ). row_text c.in_ok-row.row ++ r) (sym (taken_rest c.args.bytes.now (row_text c.in_ok-row.row) c.in_ok-row.rest.now _ refl t.0))

pub returns-clause-only : goal.returns-clause-only
returns-clause-only c = λ d rest is e.
    let t = row_takes c.args.bytes.now (pair c.in_ok-row.row c.in_ok-row.rest.now) (λ i. omega (arith, c.type_inv.bytes i)) c.in_ok-row.ensures in
    let same = ok_is (pair c.in_ok-row.row c.in_ok-row.rest.now) (pair d rest) (sym c.in_ok-row.ensures ∙ ap (row_at Two) e ∙ row_again d rest is) in
    (ap (λ (x : EventRow × List ℕ). x.0) same, taken_rest c.args.bytes.now (row_text c.in_ok-row.row) c.in_ok-row.rest.now _ refl t.0 ∙ ap (λ (x : EventRow × List ℕ). x.1) same)
