-- The rules row by row, for a table of which no history is at hand: which command is refused, and what one that is not
-- does to the table.
use Rattle.std.specs.Prelude.{ℕ, ◌+◌, ◌-◌, ◌*◌, ◌^◌, min, Bool, List, [], ◌∷◌, ◌++◌, length, Option, Some, None, find, count_by, if◌then◌else◌}
use Rattle.std.specs.List.{list_any}
use Rattle.std.specs.Str.{bytes_eq}
use Rattle.retry_rules.specs.declared.policy.RetryPolicy.{RetryPolicy}
use Rattle.retry_rules.specs.declared.settings.Settings.{Settings}
use Rattle.retry_rules.specs.Settings.{policy_of}
use Rattle.invoke_records.specs.declared.snapshot.Snapshot.{Snapshot}
use Rattle.invoke_records.specs.declared.command.Command.{Command}
use Rattle.invoke_records.specs.declared.command.Kind.{Kind}
use Rattle.invoke_records.specs.declared.command.Kind.TheVariants.{Accept, Start, Fail, Throttle, Interrupt, Collect, Configure}
use Rattle.invoke_records.specs.declared.row.EventRow.{EventRow}
use Rattle.invoke_records.specs.declared.row.Answer.TheVariants as answer
use Rattle.invoke_records.specs.declared.row.Standing.{Standing}
use Rattle.invoke_records.specs.declared.row.Standing.TheVariants as standing
use Rattle.async_core.specs.declared.illegal.Illegal.{Illegal}
use Rattle.async_core.specs.Lives.{answer_by}
use Rattle.async_core.specs.Standings.{Rules, rules_with, standing_by, is_running, runs_in}
use Rattle.async_core.specs.Policies.{policy_by}
use Rattle.async_core.specs.declared.situation.Situation.{Situation}
use Rattle.async_core.specs.Checks.{refusal_in}

-- ## Reading a table

abbrev pub has_id : List ℕ → EventRow → Bool
has_id id r = bytes_eq id r.id

-- the row of an event
abbrev pub row_at : Snapshot → List ℕ → Option EventRow
row_at table id = find (has_id id) table.rows

abbrev pub standing_or_unknown : Option EventRow → Standing
standing_or_unknown None = standing.Unknown
standing_or_unknown (Some r) = r.standing

-- the moment from which an event is too old, by its own age
abbrev pub too_old_at : EventRow → ℕ
too_old_at r = r.accepted + 1000 * r.policy.age

abbrev pub too_old_or_zero : Option EventRow → ℕ
too_old_or_zero None = 0
too_old_or_zero (Some r) = too_old_at r

-- where an event stands by this table
unfoldable pub standing_at : Snapshot → List ℕ → Standing
standing_at table id = standing_or_unknown (row_at table id)

-- how many attempts run
abbrev pub running_at : List EventRow → ℕ
running_at rows = count_by (λ (r : EventRow). is_running r.standing) rows

-- whether an attempt runs in this environment
abbrev pub is_busy_at : ℕ → List EventRow → Bool
is_busy_at environment rows = list_any (λ (r : EventRow). runs_in environment r.standing) rows

-- what a command meets in this table
abbrev pub situation_at : Settings → Snapshot → Command → Situation
situation_at s table c = record {
  last_moment = table.last_moment;
  held = length table.rows;
  running = running_at table.rows;
  is_busy = is_busy_at c.environment table.rows;
  standing = standing_at table c.id;
  too_old_from = too_old_or_zero (row_at table c.id);
}

-- why a command is refused by this table, if it is
unfoldable pub refusal_at : Settings → Snapshot → Command → Option Illegal
refusal_at s table c = refusal_in s (situation_at s table c) c

-- ## What a command does

-- a counter of 32 bits stays at its greatest value
abbrev pub one_more : ℕ → ℕ
one_more n = min (n + 1) (2 ^ 32 - 1)

abbrev pub starts_by : Kind → ℕ → ℕ
starts_by Start n = one_more n
starts_by kind n = n

abbrev pub failures_by : Kind → ℕ → ℕ
failures_by (Fail cause) n = one_more n
failures_by kind n = n

abbrev pub push_backs_by : Kind → ℕ → ℕ
push_backs_by Throttle n = one_more n
push_backs_by Interrupt n = one_more n
push_backs_by (Fail cause) n = 0
push_backs_by kind n = n

-- the row of an event that command number n accepts, while this policy is in force
abbrev pub accepted_row : RetryPolicy → ℕ → Command → EventRow
accepted_row policy n c = record {
  id = c.id;
  accepted = c.time;
  number = n;
  last_number = n;
  standing = standing.Waiting c.time;
  starts = 0;
  failures = 0;
  push_backs = 0;
  policy = policy;
  payload = c.bytes;
  answer = answer.None;
}

-- where an event stands after a command of this kind, where it had failed and was pushed back so often before
abbrev pub standing_next : Rules → Command → Kind → ℕ → ℕ → Standing
standing_next rules c kind failures push_backs =
    standing_by rules (failures_by kind failures) (push_backs_by kind push_backs) c kind

-- the row of an event after command number n, of this kind, which names it: judged by the policy of its row
abbrev pub row_after : Settings → ℕ → Command → Kind → EventRow → EventRow
row_after s n c kind r = record r {
  last_number = n;
  standing = standing_next (rules_with s r.policy) c kind r.failures r.push_backs;
  starts = starts_by kind r.starts;
  failures = failures_by kind r.failures;
  push_backs = push_backs_by kind r.push_backs;
  answer = answer_by r.answer kind c.bytes;
}

-- the rows, the first one of this event changed
abbrev pub change_row : List ℕ → (EventRow → EventRow) → List EventRow → List EventRow
change_row id change [] = []
change_row id change (r ∷ rows) = if has_id id r then change r ∷ rows else r ∷ change_row id change rows

-- the rows without the first one of this event
abbrev pub remove_row : List ℕ → List EventRow → List EventRow
remove_row id [] = []
remove_row id (r ∷ rows) = if has_id id r then rows else r ∷ remove_row id rows

-- the rows after command number n, which is of this kind, while this policy is in force
abbrev pub rows_after : Settings → RetryPolicy → ℕ → Command → Kind → List EventRow → List EventRow
rows_after s policy n c Accept rows = rows ++ accepted_row policy n c ∷ []
rows_after s policy n c Collect rows = remove_row c.id rows
rows_after s policy n c (Configure next) rows = rows
rows_after s policy n c kind rows = change_row c.id (row_after s n c kind) rows

-- this table after a command that is not refused
unfoldable pub table_after : Settings → Snapshot → Command → Snapshot
table_after s table c = record {
  number = table.number + 1;
  last_moment = c.time;
  policy = policy_by table.policy c.kind;
  rows = rows_after s table.policy (table.number + 1) c c.kind table.rows;
}

-- the table with no command
abbrev pub empty_table : Settings → Snapshot
empty_table s = record { number = 0; last_moment = 0; policy = policy_of s; rows = [] }

-- this, where nothing is refused
abbrev pub where_legal : {A : Type 0} → Option Illegal → Option A → Option A
where_legal None rest = rest
where_legal (Some why) rest = None

-- this table after these commands, if each is legal after those before it
abbrev pub replay : Settings → Snapshot → List Command → Option Snapshot
replay s table [] = Some table
replay s table (c ∷ commands) = where_legal (refusal_at s table c) (replay s (table_after s table c) commands)
