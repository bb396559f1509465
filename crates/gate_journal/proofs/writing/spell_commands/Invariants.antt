use Rattle.std.proofs.Common.{◌≡◌, ◌++◌, All, take}
use Rattle.invoke_records.specs.Spelling.{IsCommand, commands_text}
use Rattle.gate_journal.proofs.writing.spell_commands.Given as goal

abbrev pub invariant-loop-command : goal.invariant-loop-command
invariant-loop-command l = record {
  text : l.out.items ≡ l.initial.out.items ++ commands_text (take l.command-index l.commands);
  spelled : All IsCommand (take l.command-index l.commands);
}
