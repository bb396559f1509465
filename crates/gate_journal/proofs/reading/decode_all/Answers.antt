use Rattle.std.proofs.Common.{refl, ◌≡◌, ◌+◌, ◌-◌, ◌++◌, ℕ, suc, List, [], ◌∷◌, drop, sym, ◌∙◌, ap, arith, append_assoc}
use Rattle.std.proofs.lemmas.List.{take_rest, length_push}
use Rattle.invoke_records.specs.declared.command.Command.{Command}
use Rattle.gate_journal.specs.declared.error.ReadError.TheVariants.{OutOfMemory}
use Rattle.gate_journal.specs.Frames.{behind_gate, commands_at, whole}
use Rattle.invoke_records.specs.laws.Fields.{first_fault}
use Rattle.std.proofs.lemmas.Result.{IfOk-from_err}
use Rattle.gate_journal.proofs.Exits.{only_error}
use Rattle.gate_journal.proofs.Decoding.{after_these, one_more, at_fault, at_end, ended, behind_gate-push}
use Rattle.gate_journal.proofs.reading.decode_all.Goals as goal

pub loop-preserved : goal.loop-preserved
loop-preserved c =
    let was = c.loop.invariant in
    let command = c.in-Ok.command in
    let rest = c.loop.rest.now in
    let gate = c.args.gate in
    let k : ℕ = c.args.count - (c.loop.counter + 1) in
    let one_left : c.args.count - c.loop.counter ≡ suc k = omega arith in (
      was.0 ++ command ∷ [],
      c.in_ok-push-in-Ok.ensures ∙ ap (λ (l : List (ℕ × Command)). l ++ (gate, command) ∷ []) was.1
          ∙ append_assoc c.args.found.now.items (behind_gate gate was.0) ((gate, command) ∷ [])
          ∙ ap (λ (l : List (ℕ × Command)). c.args.found.now.items ++ l) (sym (behind_gate-push gate was.0 command)),
      length_push was.0 command ∙ ap (λ (n : ℕ). n + 1) was.2,
      was.3 ∙ ap (λ (n : ℕ). after_these was.0 (commands_at n rest)) one_left
          ∙ one_more was.0 k rest command (drop c.in-Ok.size rest) c.in-Ok.ensures.exact
          ∙ ap (λ (l : List ℕ). after_these (was.0 ++ command ∷ []) (commands_at k l)) (sym (take_rest rest c.in-Ok.size)),
    )

pub returns-clause-decoded : goal.returns-clause-decoded
returns-clause-decoded c =
    let was = c.loop.invariant in
    let none_left : c.args.count - c.loop.counter ≡ 0 = omega arith in
    ended c.args.gate (commands_at c.args.count c.args.bytes.now) was.0 c.loop.rest.now c.args.found.now.items c.loop.found.items c.is_empty.result
    (was.3 ∙ ap (λ (n : ℕ). after_these was.0 (commands_at n c.loop.rest.now)) none_left ∙ at_end was.0 c.loop.rest.now) was.1 c.is_empty.ensures

pub returns-in_default : goal.returns-in_default
returns-in_default c =
    let was = c.loop.invariant in
    let rest = c.loop.rest.now in
    let k : ℕ = c.args.count - (c.loop.counter + 1) in
    let one_left : c.args.count - c.loop.counter ≡ suc k = omega arith in
    record {
      memory = tt;
      decoded = ap whole (was.3 ∙ ap (λ (n : ℕ). after_these was.0 (commands_at n rest)) one_left
          ∙ at_fault was.0 k rest c.in-Err.error (first_fault c.in-Err.error _ c.in_default.not-OutOfMemory c.in-Err.ensures.exact));
      count = tt;
    }

pub returns-in_err-push-in-Ok-clause-memory : goal.returns-in_err-push-in-Ok-clause-memory
returns-in_err-push-in-Ok-clause-memory c = only_error c.from_residual.result OutOfMemory c.from_residual.ensures.1

pub returns-in_err-push-in-Ok-clause-decoded : goal.returns-in_err-push-in-Ok-clause-decoded
returns-in_err-push-in-Ok-clause-decoded c = IfOk-from_err _ _ c.from_residual.ensures.0

pub returns-in_err-push-in-Ok-clause-count : goal.returns-in_err-push-in-Ok-clause-count
returns-in_err-push-in-Ok-clause-count c = IfOk-from_err _ _ c.from_residual.ensures.0

pub returns-in-OutOfMemory-clause-memory : goal.returns-in-OutOfMemory-clause-memory
returns-in-OutOfMemory-clause-memory c = refl

pub returns-in-OutOfMemory-clause-decoded : goal.returns-in-OutOfMemory-clause-decoded
returns-in-OutOfMemory-clause-decoded c = tt

pub returns-in-OutOfMemory-clause-count : goal.returns-in-OutOfMemory-clause-count
returns-in-OutOfMemory-clause-count c = tt

pub returns-clause-memory : goal.returns-clause-memory
returns-clause-memory c = tt
