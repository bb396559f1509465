-- Names for the steps of one command in the private functions: what it brings, and what it does to a row and to the rows.
use Rattle.std.specs.Prelude.{◌≡◌, ℕ, List, Option, unwrap_or}
use Rattle.retry_rules.specs.declared.policy.RetryPolicy.{RetryPolicy}
use Rattle.retry_rules.specs.declared.settings.Settings.{Settings}
use Rattle.invoke_records.specs.declared.command.Command.{Command}
use Rattle.invoke_records.specs.declared.row.Answer.{Answer}
use Rattle.invoke_records.specs.declared.row.EventRow.{EventRow}
use Rattle.invoke_records.specs.declared.row.Standing.{Standing}
use Rattle.async_core.specs.Lives.{answer_by}
use Rattle.async_core.specs.Standings.{rules_with}
use Rattle.async_core.specs.Rules.{standing_next, row_after, rows_after, change_row}

-- after the command the answer of its event is this one, if it is one, and else the answer before
abbrev pub Replaces : Command → Answer → Option Answer → Type 0
Replaces c before answer = answer_by before c.kind c.bytes ≡ unwrap_or answer before

-- the answer that the command brings, if it brings one
abbrev pub Brings : Command → Option Answer → Type 0
Brings c answer = (before : Answer) → Replaces c before answer

-- where its event, which is judged by this policy, stands after the command, where it had failed and was pushed back so often
abbrev pub standing_with : Settings → RetryPolicy → Command → ℕ → ℕ → Standing
standing_with s policy c failures push_backs = standing_next (rules_with s policy) c c.kind failures push_backs

-- the row of its event after command number n
abbrev pub row_with : Settings → ℕ → Command → EventRow → EventRow
row_with s n c r = row_after s n c c.kind r

-- the rows with the row of its event changed by command number n
abbrev pub rows_changed : Settings → ℕ → Command → List EventRow → List EventRow
rows_changed s n c rows = change_row c.id (row_with s n c) rows

-- the rows after command number n, while this policy is in force
abbrev pub rows_with : Settings → RetryPolicy → ℕ → Command → List EventRow → List EventRow
rows_with s policy n c rows = rows_after s policy n c c.kind rows
