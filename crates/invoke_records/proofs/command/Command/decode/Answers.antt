use Rattle.std.proofs.Common.{◌≡◌, ◌++◌, List, ℕ, Result, Ok, sym, ap, subst, ◌∙◌, refl, arith}
use Rattle.std.proofs.lemmas.Result.{err_from_is_err_and}
use Rattle.invoke_records.specs.declared.command.Command.{Command}
use Rattle.invoke_records.specs.declared.error.RecordError.{RecordError}
use Rattle.invoke_records.specs.Spelling.{command_text}
use Rattle.invoke_records.specs.Reading.{Misses, command_at}
use Rattle.invoke_records.specs.laws.Fields.{ok_is, taken_most, taken_size, taken_rest}
use Rattle.invoke_records.specs.laws.Commands.{command_takes, command_again}
use Rattle.invoke_records.proofs.command.Command.decode.Goals as goal

abbrev pair : Command → List ℕ → Command × List ℕ
pair command rest = (command, rest)

abbrev good : Command → List ℕ → Result (Command × List ℕ) RecordError
good command rest = Ok (command, rest)

pub returns-in_err-command-clause-only : goal.returns-in_err-command-clause-only
returns-in_err-command-clause-only c = λ d rest is e.
    let p = err_from_is_err_and c.from_residual.result c.from_residual.ensures.1 in
    let read : command_at c.args.bytes.now ≡ good d rest = ap command_at e ∙ command_again d rest is in
    rw (p.1, p.2) (subst (Misses c.in_err-command.field-0.0) read c.in_err-command.ensures)

pub overflow_sub-len : goal.overflow_sub-len
overflow_sub-len c =
    let t = command_takes c.args.bytes.now (pair c.in_ok-command.command c.in_ok-command.rest.now) (λ i. omega (arith, c.type_inv.bytes i)) c.in_ok-command.ensures in
    taken_most c.args.bytes.now (command_text c.in_ok-command.command) c.in_ok-command.rest.now t.0

pub returns-clause-exact : goal.returns-clause-exact
returns-clause-exact c =
    let t = command_takes c.args.bytes.now (pair c.in_ok-command.command c.in_ok-command.rest.now) (λ i. omega (arith, c.type_inv.bytes i)) c.in_ok-command.ensures in
    c.in_ok-command.ensures ∙ ap (good c.in_ok-command.command) (sym (taken_rest c.args.bytes.now (command_text c.in_ok-command.command) c.in_ok-command.rest.now _ refl t.0))

pub returns-clause-spelled : goal.returns-clause-spelled
returns-clause-spelled c = (command_takes c.args.bytes.now (pair c.in_ok-command.command c.in_ok-command.rest.now) (λ i. omega (arith, c.type_inv.bytes i)) c.in_ok-command.ensures).1

pub returns-clause-size : goal.returns-clause-size
returns-clause-size c =
    let t = command_takes c.args.bytes.now (pair c.in_ok-command.command c.in_ok-command.rest.now) (λ i. omega (arith, c.type_inv.bytes i)) c.in_ok-command.ensures in
    taken_size c.args.bytes.now (command_text c.in_ok-command.command) c.in_ok-command.rest.now _ refl t.0

pub returns-clause-found : goal.returns-clause-found
returns-clause-found c =
    let t = command_takes c.args.bytes.now (pair c.in_ok-command.command c.in_ok-command.rest.now) (λ i. omega (arith, c.type_inv.bytes i)) c.in_ok-command.ensures in
    t.0.parts ∙ ap (λ (r : List ℕ). command_text c.in_ok-command.command ++ r) (sym (taken_rest c.args.bytes.now (command_text c.in_ok-command.command) c.in_ok-command.rest.now _ refl t.0))

pub returns-clause-only : goal.returns-clause-only
returns-clause-only c = λ d rest is e.
    let t = command_takes c.args.bytes.now (pair c.in_ok-command.command c.in_ok-command.rest.now) (λ i. omega (arith, c.type_inv.bytes i)) c.in_ok-command.ensures in
    let same = ok_is (pair c.in_ok-command.command c.in_ok-command.rest.now) (pair d rest) (sym c.in_ok-command.ensures ∙ ap command_at e ∙ command_again d rest is) in
    (ap (λ (x : Command × List ℕ). x.0) same, taken_rest c.args.bytes.now (command_text c.in_ok-command.command) c.in_ok-command.rest.now _ refl t.0 ∙ ap (λ (x : Command × List ℕ). x.1) same)
