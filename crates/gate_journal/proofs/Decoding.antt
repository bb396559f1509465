-- Commands read one after another.
use Rattle.std.proofs.Common.{◌≡◌, ℕ, suc, ◌==◌, Bool, true, false, List, [], ◌∷◌, ◌++◌, length, Result, Ok, Err, refl, sym, ◌∙◌, ap, append_assoc, arith}
use Rattle.std.proofs.lemmas.Bool.{false≢true, eqb-true}
use Rattle.std.proofs.lemmas.List.{append-nil}
use Rattle.invoke_records.specs.declared.command.Command.{Command}
use Rattle.invoke_records.specs.declared.error.RecordError.{RecordError}
use Rattle.invoke_records.specs.Reading.{◌>>=◌, command_at}
use Rattle.gate_journal.specs.Frames.{commands_at, whole, behind_gate}
use Rattle.gate_journal.specs.Steps.{AreDecoded}

-- these commands first
abbrev pub after_these : List Command → Result (List Command × List ℕ) RecordError → Result (List Command × List ℕ) RecordError
after_these commands (Ok (others, rest)) = Ok (commands ++ others, rest)
after_these commands (Err e) = Err e

-- one command first
one_first : (commands : List Command) (c : Command) (r : Result (List Command × List ℕ) RecordError)
    → after_these commands (r >>= λ (others : List Command × List ℕ). Ok (c ∷ others.0, others.1)) ≡ after_these (commands ++ c ∷ []) r
one_first commands c (Ok (others, rest)) = ap (λ (l : List Command). Ok (l, rest)) (sym (append_assoc commands (c ∷ []) others))
one_first commands c (Err e) = refl

pub commands-suc : (k : ℕ) (bytes : List ℕ) → commands_at (suc k) bytes
    ≡ (command_at bytes >>= λ (first : Command × List ℕ). commands_at k first.1 >>= λ (others : List Command × List ℕ). Ok (first.0 ∷ others.0, others.1))
unfolding commands_at
commands-suc k bytes = refl

pub commands-zero : (bytes : List ℕ) → commands_at 0 bytes ≡ Ok ([], bytes)
unfolding commands_at
commands-zero bytes = refl

pub none_yet : (r : Result (List Command × List ℕ) RecordError) → r ≡ after_these [] r
none_yet (Ok (commands, rest)) = refl
none_yet (Err e) = refl

pub one_more : (commands : List Command) (k : ℕ) (bytes : List ℕ) (c : Command) (behind : List ℕ) → command_at bytes ≡ Ok (c, behind)
    → after_these commands (commands_at (suc k) bytes) ≡ after_these (commands ++ c ∷ []) (commands_at k behind)
one_more commands k bytes c behind is =
    ap (after_these commands)
    (commands-suc k bytes
    ∙ ap (λ (r : Result (Command × List ℕ) RecordError). r >>= λ (first : Command × List ℕ). commands_at k first.1 >>= λ (others : List Command × List ℕ). Ok (first.0 ∷ others.0, others.1)) is)
    ∙ one_first commands c (commands_at k behind)

pub at_fault : (commands : List Command) (k : ℕ) (bytes : List ℕ) (e : RecordError) → command_at bytes ≡ Err e → after_these commands (commands_at (suc k) bytes) ≡ Err e
at_fault commands k bytes e is =
    ap (after_these commands)
    (commands-suc k bytes
    ∙ ap (λ (r : Result (Command × List ℕ) RecordError). r >>= λ (first : Command × List ℕ). commands_at k first.1 >>= λ (others : List Command × List ℕ). Ok (first.0 ∷ others.0, others.1)) is)

pub at_end : (commands : List Command) (bytes : List ℕ) → after_these commands (commands_at 0 bytes) ≡ Ok (commands, bytes)
at_end commands bytes = ap (after_these commands) (commands-zero bytes) ∙ ap (λ (l : List Command). Ok (l, bytes)) (append-nil commands)

-- what was found by the last command, if nothing is left behind it
pub ended : (gate : ℕ) (read : Result (List Command × List ℕ) RecordError) (commands : List Command) (rest : List ℕ) (old new : List (ℕ × Command)) (good : Bool) → read ≡ Ok (commands, rest)
    → new ≡ old ++ behind_gate gate commands → good ≡ (length rest == 0) → AreDecoded gate (whole read) old new good
ended gate read commands [] old new true is found empty = (commands, ap whole is, found)
ended gate read commands [] old new false is found empty = absurd (false≢true empty)
ended gate read commands (b ∷ rest) old new true is found empty = absurd (omega (arith, eqb-true (suc (length rest)) 0 (sym empty)))
ended gate read commands (b ∷ rest) old new false is found empty = ap whole is

pub behind_gate-push : (gate : ℕ) (commands : List Command) (c : Command) → behind_gate gate (commands ++ c ∷ []) ≡ behind_gate gate commands ++ (gate, c) ∷ []
behind_gate-push gate [] c = refl
behind_gate-push gate (d ∷ commands) c = ap (λ (l : List (ℕ × Command)). (gate, d) ∷ l) (behind_gate-push gate commands c)
