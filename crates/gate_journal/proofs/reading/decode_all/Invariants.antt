use Rattle.std.proofs.Common.{◌≡◌, ◌-◌, ◌++◌, List, length}
use Rattle.invoke_records.specs.declared.command.Command.{Command}
use Rattle.gate_journal.specs.Frames.{behind_gate, commands_at}
use Rattle.gate_journal.proofs.Decoding.{after_these}
use Rattle.gate_journal.proofs.reading.decode_all.Given as goal

abbrev pub invariant-loop : goal.invariant-loop
invariant-loop l =
    (commands : List Command) × (l.found.items ≡ l.initial.found.items ++ behind_gate l.gate commands) × (length commands ≡ l.counter)
    × (commands_at l.count l.bytes ≡ after_these commands (commands_at (l.count - l.counter) l.rest))
