use Rattle.std.proofs.Common.{◌≡◌, ◌++◌, List, ℕ, Result, Ok, sym, ap, subst, ◌∙◌, refl, arith}
use Rattle.std.proofs.lemmas.Result.{err_from_is_err_and}
use Rattle.invoke_records.specs.declared.snapshot.Snapshot.{Snapshot}
use Rattle.invoke_records.specs.declared.version.Version.TheVariants.{Two}
use Rattle.invoke_records.specs.declared.error.RecordError.{RecordError}
use Rattle.invoke_records.specs.Spelling.{snapshot_text}
use Rattle.invoke_records.specs.Reading.{Fails, snapshot_at}
use Rattle.invoke_records.specs.laws.Fields.{ok_is, lacks_memory, taken_most, taken_size, taken_rest}
use Rattle.invoke_records.specs.laws.Snapshots.{snapshot_takes, snapshot_again}
use Rattle.invoke_records.proofs.snapshot.Snapshot.decode.Goals as goal

abbrev pair : Snapshot → List ℕ → Snapshot × List ℕ
pair snapshot rest = (snapshot, rest)

abbrev good : Snapshot → List ℕ → Result (Snapshot × List ℕ) RecordError
good snapshot rest = Ok (snapshot, rest)

pub returns-in_err-snapshot-clause-only : goal.returns-in_err-snapshot-clause-only
returns-in_err-snapshot-clause-only c = λ d rest is e.
    let p = err_from_is_err_and c.from_residual.result c.from_residual.ensures.1 in
    let read : snapshot_at Two c.args.bytes.now ≡ good d rest = ap (snapshot_at Two) e ∙ snapshot_again d rest is in
    rw (p.1, p.2) (lacks_memory c.in_err-snapshot.field-0.0 (pair d rest) (subst (Fails c.in_err-snapshot.field-0.0) read c.in_err-snapshot.ensures))

pub overflow_sub-len : goal.overflow_sub-len
overflow_sub-len c =
    let t = snapshot_takes c.args.bytes.now (pair c.in_ok-snapshot.snapshot c.in_ok-snapshot.rest.now) (λ i. omega (arith, c.type_inv.bytes i)) c.in_ok-snapshot.ensures in
    taken_most c.args.bytes.now (snapshot_text c.in_ok-snapshot.snapshot) c.in_ok-snapshot.rest.now t.0

pub returns-clause-exact : goal.returns-clause-exact
returns-clause-exact c =
    let t = snapshot_takes c.args.bytes.now (pair c.in_ok-snapshot.snapshot c.in_ok-snapshot.rest.now) (λ i. omega (arith, c.type_inv.bytes i)) c.in_ok-snapshot.ensures in
    c.in_ok-snapshot.ensures ∙ ap (good c.in_ok-snapshot.snapshot) (sym (taken_rest c.args.bytes.now (snapshot_text c.in_ok-snapshot.snapshot) c.in_ok-snapshot.rest.now _ refl t.0))

pub returns-clause-spelled : goal.returns-clause-spelled
returns-clause-spelled c = (snapshot_takes c.args.bytes.now (pair c.in_ok-snapshot.snapshot c.in_ok-snapshot.rest.now) (λ i. omega (arith, c.type_inv.bytes i)) c.in_ok-snapshot.ensures).1

pub returns-clause-size : goal.returns-clause-size
returns-clause-size c =
    let t = snapshot_takes c.args.bytes.now (pair c.in_ok-snapshot.snapshot c.in_ok-snapshot.rest.now) (λ i. omega (arith, c.type_inv.bytes i)) c.in_ok-snapshot.ensures in
    taken_size c.args.bytes.now (snapshot_text c.in_ok-snapshot.snapshot) c.in_ok-snapshot.rest.now _ refl t.0

pub returns-clause-found : goal.returns-clause-found
returns-clause-found c =
    let t = snapshot_takes c.args.bytes.now (pair c.in_ok-snapshot.snapshot c.in_ok-snapshot.rest.now) (λ i. omega (arith, c.type_inv.bytes i)) c.in_ok-snapshot.ensures in
    t.0.parts ∙ ap (λ (r : List ℕ). snapshot_text c.in_ok-snapshot.snapshot ++ r) (sym (taken_rest c.args.bytes.now (snapshot_text c.in_ok-snapshot.snapshot) c.in_ok-snapshot.rest.now _ refl t.0))

pub returns-clause-only : goal.returns-clause-only
returns-clause-only c = λ d rest is e.
    let t = snapshot_takes c.args.bytes.now (pair c.in_ok-snapshot.snapshot c.in_ok-snapshot.rest.now) (λ i. omega (arith, c.type_inv.bytes i)) c.in_ok-snapshot.ensures in
    let same = ok_is (pair c.in_ok-snapshot.snapshot c.in_ok-snapshot.rest.now) (pair d rest) (sym c.in_ok-snapshot.ensures ∙ ap (snapshot_at Two) e ∙ snapshot_again d rest is) in
    (ap (λ (x : Snapshot × List ℕ). x.0) same, taken_rest c.args.bytes.now (snapshot_text c.in_ok-snapshot.snapshot) c.in_ok-snapshot.rest.now _ refl t.0 ∙ ap (λ (x : Snapshot × List ℕ). x.1) same)
