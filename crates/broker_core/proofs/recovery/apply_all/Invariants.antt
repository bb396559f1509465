use Rattle.std.proofs.Common.{◌≡◌, ◌+◌, drop}
use Rattle.async_core.specs.Rules.{replay}
use Rattle.broker_core.proofs.recovery.apply_all.Given as goal

abbrev pub invariant-loop-command : goal.invariant-loop-command
invariant-loop-command l = record {
  settings : l.table.settings ≡ l.initial.table.settings;
  same : replay l.initial.table.settings l.table.table (drop l.command-index l.commands) ≡ replay l.initial.table.settings l.initial.table.table l.commands;
  number : l.table.table.number ≡ l.initial.table.table.number + l.command-index;
}
