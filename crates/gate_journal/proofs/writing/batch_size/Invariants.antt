use Rattle.std.proofs.Common.{◌≡◌, ◌*◌, ◌≤◌, length, take}
use Rattle.invoke_records.specs.Spelling.{commands_text}
use Rattle.gate_journal.proofs.writing.batch_size.Given as goal

abbrev pub invariant-loop-command : goal.invariant-loop-command
invariant-loop-command l = record {
  size : l.size ≡ length (commands_text (take l.command-index l.commands));
  most : l.size ≤ 1048607 * l.command-index;
}
