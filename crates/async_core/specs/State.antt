-- A table of events as contracts see it: which command it refuses, and what one that it does not refuse makes of it.
use Rattle.std.specs.Prelude.{Option}
use Rattle.retry_rules.specs.declared.settings.Settings.{Settings}
use Rattle.invoke_records.specs.declared.snapshot.Snapshot.{Snapshot}
use Rattle.invoke_records.specs.declared.command.Command.{Command}
use Rattle.async_core.specs.declared.illegal.Illegal.{Illegal}
use Rattle.async_core.specs.Rules.{refusal_at, table_after, empty_table}

-- the settings, and the events that are held
pub record State : Type 0 where
  pub settings : Settings
  pub table : Snapshot

-- with no command
abbrev pub empty_state : Settings → State
empty_state s = record { settings = s; table = empty_table s }

-- why the command is refused, if it is
abbrev pub refusal_by : State → Command → Option Illegal
refusal_by t c = refusal_at t.settings t.table c

-- after a command that is not refused
abbrev pub state_after : State → Command → State
state_after t c = record t { table = table_after t.settings t.table c }
