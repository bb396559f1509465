-- What a list of commands says of each event. The list is the whole history, the oldest command first.
use Rattle.std.specs.Prelude.{◌≡◌, ℕ, ◌+◌, ◌-◌, ◌*◌, Bool, not, ◌&&◌, List, [], ◌∷◌, length, take, map, Option, Some, None, if◌then◌else◌, slice_get, count_by}
use Rattle.std.specs.List.{last_or, list_any, suffix_len}
use Rattle.retry_rules.specs.declared.settings.Settings.{Settings}
use Rattle.invoke_records.specs.declared.command.Command.{Command}
use Rattle.invoke_records.specs.declared.row.Standing.{Standing}
use Rattle.invoke_records.specs.declared.row.Standing.TheVariants as standing
use Rattle.invoke_records.specs.declared.row.EventRow.{EventRow}
use Rattle.invoke_records.specs.declared.snapshot.Snapshot.{Snapshot}
use Rattle.async_core.specs.declared.illegal.Illegal.{Illegal}
pub use Rattle.async_core.specs.Lives.{is_accept, names, collects, life, accepted, payload_of, starts, failures, push_backs, answer_of}
pub use Rattle.async_core.specs.Standings.{Rules, rules_with, standing_by, is_running, runs_in}
pub use Rattle.async_core.specs.Policies.{in_force, judged_by}
pub use Rattle.async_core.specs.declared.situation.Situation.{Situation}
pub use Rattle.async_core.specs.Checks.{refusal_in}

-- ## One event

-- the rules that an event is judged by: those that were in force just before it was accepted
abbrev pub rules_of : Settings → List Command → List ℕ → Rules
rules_of s history id = rules_with s (judged_by s history id)

abbrev pub standing_after : Rules → List Command → Option Command → Standing
standing_after rules commands None = standing.Unknown
standing_after rules commands (Some c) = standing_by rules (failures commands) (push_backs commands) c c.kind

-- where a life stands, by its last command
abbrev pub standing_of : Rules → List Command → Standing
standing_of rules commands = standing_after rules commands (last_or None commands)

-- where an event stands after a history
unfoldable pub standing_in : Settings → List Command → List ℕ → Standing
standing_in s history id = standing_of (rules_of s history id) (life id history)

-- the moment from which an event is too old, 0 of one that is not held
abbrev pub too_old_from : Settings → List Command → List ℕ → ℕ
too_old_from s history id = accepted (life id history) + 1000 * (rules_of s history id).age

-- ## All events that are held

-- each event that is held, behind the number of the command that accepted it, in that order
abbrev pub held_from : ℕ → List Command → List (ℕ × List ℕ)
held_from n [] = []
held_from n (c ∷ later) =
    if is_accept c && not (list_any (collects c.id) later) then (n, c.id) ∷ held_from (n + 1) later
    else held_from (n + 1) later

unfoldable pub held : List Command → List (ℕ × List ℕ)
held history = held_from 1 history

-- how many attempts run
abbrev pub running_count : Settings → List Command → ℕ
running_count s history = count_by (λ (e : ℕ × List ℕ). is_running (standing_in s history e.1)) (held history)

-- whether an attempt runs in this environment
abbrev pub is_busy_in : Settings → List Command → ℕ → Bool
is_busy_in s history environment =
    list_any (λ (e : ℕ × List ℕ). runs_in environment (standing_in s history e.1)) (held history)

-- the number of the last command that names the event, or 0
unfoldable pub last_number : List ℕ → List Command → ℕ
last_number id history = length history - suffix_len (λ c. not (names id c)) history

abbrev pub time_or_zero : Option Command → ℕ
time_or_zero None = 0
time_or_zero (Some c) = c.time

abbrev pub last_moment : List Command → ℕ
last_moment history = time_or_zero (last_or None history)

-- ## The table that stands for a history

abbrev pub row_of : Settings → List Command → ℕ × List ℕ → EventRow
row_of s history event = record {
  id = event.1;
  accepted = accepted (life event.1 history);
  number = event.0;
  last_number = last_number event.1 history;
  standing = standing_in s history event.1;
  starts = starts (life event.1 history);
  failures = failures (life event.1 history);
  push_backs = push_backs (life event.1 history);
  policy = judged_by s history event.1;
  payload = payload_of (life event.1 history);
  answer = answer_of (life event.1 history);
}

-- the one table that stands for a history
unfoldable pub table_of : Settings → List Command → Snapshot
table_of s history = record {
  number = length history;
  last_moment = last_moment history;
  policy = in_force s history;
  rows = map (row_of s history) (held history);
}

-- ## Legal commands

-- what a command meets after a history
abbrev pub situation_of : Settings → List Command → Command → Situation
situation_of s history c = record {
  last_moment = last_moment history;
  held = length (held history);
  running = running_count s history;
  is_busy = is_busy_in s history c.environment;
  standing = standing_in s history c.id;
  too_old_from = too_old_from s history c.id;
}

-- why a command is refused after a history, if it is
unfoldable pub refusal_of : Settings → List Command → Command → Option Illegal
refusal_of s history c = refusal_in s (situation_of s history c) c

-- each command is legal after those before it
pub record IsLegal (s : Settings) (history : List Command) : Type 0 where
  pub each : (n : ℕ) (c : Command) → slice_get history n ≡ Some c → refusal_of s (take n history) c ≡ None
