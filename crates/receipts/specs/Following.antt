-- What marks tell of a table: its counts, standings and moments, without bytes and environments.
use Rattle.std.specs.Prelude.{◌≡◌, List, [], ◌∷◌, map}
use Rattle.retry_rules.specs.declared.settings.Settings.{Settings}
use Rattle.invoke_records.specs.declared.snapshot.Snapshot.{Snapshot}
use Rattle.invoke_records.specs.declared.command.Command.{Command}
use Rattle.invoke_records.specs.declared.row.EventRow.{EventRow}
use Rattle.invoke_records.specs.declared.row.Answer.TheVariants as answer
use Rattle.invoke_records.specs.declared.row.Standing.{Standing}
use Rattle.invoke_records.specs.declared.row.Standing.TheVariants as standing
use Rattle.async_core.specs.Rules.{table_after}
use Rattle.receipts.specs.declared.mark.Mark.{Mark}

-- ## Without bytes and environments

abbrev pub bare_standing : Standing → Standing
bare_standing (standing.Running environment deadline) = standing.Running 0 deadline
bare_standing other = other

abbrev pub bare_row : EventRow → EventRow
bare_row r = record r { standing = bare_standing r.standing; payload = []; answer = answer.None }

abbrev pub bare : Snapshot → Snapshot
bare table = record table { rows = map bare_row table.rows }

-- two tables with the same events, counts, standings and moments
abbrev pub TellTheSame : Snapshot → Snapshot → Type 0
TellTheSame one other = bare one ≡ bare other

-- ## Marks as commands

-- what a mark tells of its command
abbrev pub command_of : Mark → Command
command_of mark = record { kind = mark.kind; id = mark.id; environment = 0; time = mark.time; bytes = [] }

-- the table after the commands of these marks
abbrev pub table_after_marks : Settings → Snapshot → List Mark → Snapshot
table_after_marks s table [] = table
table_after_marks s table (mark ∷ marks) = table_after_marks s (table_after s table (command_of mark)) marks

-- the table tells the same as that of the opening, followed by the marks
abbrev pub Follows : Settings → Snapshot → List Mark → Snapshot → Type 0
Follows s opening marks table = TellTheSame table (table_after_marks s opening marks)
