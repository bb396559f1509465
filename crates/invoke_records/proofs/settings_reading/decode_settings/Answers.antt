use Rattle.std.proofs.Common.{◌≡◌, ◌++◌, List, ℕ, Result, Ok, sym, ap, subst, ◌∙◌, refl, arith}
use Rattle.std.proofs.lemmas.Result.{err_from_is_err_and}
use Rattle.retry_rules.specs.declared.settings.Settings.{Settings}
use Rattle.invoke_records.specs.declared.error.RecordError.{RecordError}
use Rattle.invoke_records.specs.Spelling.{settings_text}
use Rattle.invoke_records.specs.Reading.{Misses, settings_at}
use Rattle.invoke_records.specs.laws.Fields.{ok_is, taken_most, taken_size, taken_rest}
use Rattle.invoke_records.specs.laws.Settings.{settings_takes, settings_again}
use Rattle.invoke_records.proofs.settings_reading.decode_settings.Goals as goal

abbrev pair : Settings → List ℕ → Settings × List ℕ
pair settings rest = (settings, rest)

abbrev good : Settings → List ℕ → Result (Settings × List ℕ) RecordError
good settings rest = Ok (settings, rest)

pub returns-in_err-settings-clause-only : goal.returns-in_err-settings-clause-only
returns-in_err-settings-clause-only c = λ d rest is e.
    let p = err_from_is_err_and c.from_residual.result c.from_residual.ensures.1 in
    let read : settings_at c.args.bytes.now ≡ good d rest = ap settings_at e ∙ settings_again d rest is in
    rw (p.1, p.2) (subst (Misses c.in_err-settings.field-0.0) read c.in_err-settings.ensures)

pub overflow_sub-len : goal.overflow_sub-len
overflow_sub-len c =
    let t = settings_takes c.args.bytes.now (pair c.in_ok-settings.settings c.in_ok-settings.rest.now) (λ i. omega (arith, c.type_inv.bytes i)) c.in_ok-settings.ensures in
    taken_most c.args.bytes.now (settings_text c.in_ok-settings.settings) c.in_ok-settings.rest.now t.0

pub returns-clause-exact : goal.returns-clause-exact
returns-clause-exact c =
    let t = settings_takes c.args.bytes.now (pair c.in_ok-settings.settings c.in_ok-settings.rest.now) (λ i. omega (arith, c.type_inv.bytes i)) c.in_ok-settings.ensures in
    c.in_ok-settings.ensures ∙ ap (good c.in_ok-settings.settings) (sym (taken_rest c.args.bytes.now (settings_text c.in_ok-settings.settings) c.in_ok-settings.rest.now _ refl t.0))

pub returns-clause-good : goal.returns-clause-good
returns-clause-good c = (settings_takes c.args.bytes.now (pair c.in_ok-settings.settings c.in_ok-settings.rest.now) (λ i. omega (arith, c.type_inv.bytes i)) c.in_ok-settings.ensures).1

pub returns-clause-size : goal.returns-clause-size
returns-clause-size c =
    let t = settings_takes c.args.bytes.now (pair c.in_ok-settings.settings c.in_ok-settings.rest.now) (λ i. omega (arith, c.type_inv.bytes i)) c.in_ok-settings.ensures in
    taken_size c.args.bytes.now (settings_text c.in_ok-settings.settings) c.in_ok-settings.rest.now _ refl t.0

pub returns-clause-found : goal.returns-clause-found
returns-clause-found c =
    let t = settings_takes c.args.bytes.now (pair c.in_ok-settings.settings c.in_ok-settings.rest.now) (λ i. omega (arith, c.type_inv.bytes i)) c.in_ok-settings.ensures in
    t.0.parts ∙ ap (λ (r : List ℕ). settings_text c.in_ok-settings.settings ++ r) (sym (taken_rest c.args.bytes.now (settings_text c.in_ok-settings.settings) c.in_ok-settings.rest.now _ refl t.0))

pub returns-clause-only : goal.returns-clause-only
returns-clause-only c = λ d rest is e.
    let t = settings_takes c.args.bytes.now (pair c.in_ok-settings.settings c.in_ok-settings.rest.now) (λ i. omega (arith, c.type_inv.bytes i)) c.in_ok-settings.ensures in
    let same = ok_is (pair c.in_ok-settings.settings c.in_ok-settings.rest.now) (pair d rest) (sym c.in_ok-settings.ensures ∙ ap settings_at e ∙ settings_again d rest is) in
    (ap (λ (x : Settings × List ℕ). x.0) same, taken_rest c.args.bytes.now (settings_text c.in_ok-settings.settings) c.in_ok-settings.rest.now _ refl t.0 ∙ ap (λ (x : Settings × List ℕ). x.1) same)
