-- Worked examples: what is seen of a broker that is well, at the good side of each bound, and of one that differs in a number.
use Rattle.std.specs.Prelude.{ℕ, List, [], ◌∷◌, Option, Some, None}
use Rattle.invoke_records.specs.declared.row.EventRow.{EventRow}
use Rattle.invoke_records.specs.declared.row.Standing.TheVariants.{Waiting}
use Rattle.operator_view.specs.declared.memory.Growth.{Growth}
use Rattle.operator_view.specs.declared.memory.Memory.{Memory}
use Rattle.operator_view.specs.declared.sight.Sight.{Sight}
use Rattle.operator_view.specs.declared.problem.Problem.{Problem}
use Rattle.operator_view.specs.Memory.{none_at}
use Rattle.operator_view.specs.Examples.{event_row}

abbrev pub usual_growth : Growth
usual_growth = record {
  seconds = 200;
  accepted = 20;
  started = 30;
  succeeded = 15;
  failed = 15;
  ended = 20;
  expired = 0;
  commits = 100;
  commit_microseconds = 9999999;
  quick_commits = 96;
  refused_full = 0;
  refused_busy = 0;
  clock_steps = 1;
}

abbrev pub well : Sight
well = record {
  at = 1000000;
  flush_seconds = 0;
  last_moment = 1005000;
  set_ahead = 3000;
  held_ahead = 0;
  held_left = 0;
  environments = 2;
  without_poll = 0;
  busy = 1;
  running = 1;
  unpolled = 2;
  unpolled_for = 60000;
  running_for = 60000;
  held = 51;
  most_events = 64;
  ended = 7;
  timeout = 3;
  due = 1;
  first_due = Some 900000;
  quiet = 9000;
  expiring = 0;
  oldest_record_age = Some 900000;
  lately = usual_growth;
}

abbrev pub holding : ℕ → Sight
holding held = record well { held = held }

abbrev pub quiet : ℕ → Sight
quiet time = record well { quiet = time }

-- how often the clock was set lately, by how much ahead when it was last, and how many events were given up
abbrev pub jumped : (steps ahead expired : ℕ) → Sight
jumped steps ahead expired = record well { set_ahead = ahead; lately = record usual_growth { clock_steps = steps; expired = expired } }

-- so many environments are busy, and an event is due since that moment
abbrev pub all_but : (busy due : ℕ) → Sight
all_but busy due = record well { busy = busy; first_due = Some due }

-- so many ended lately, and an event is due since that moment
abbrev pub backlog : (ended due : ℕ) → Sight
backlog ended due = record well { first_due = Some due; lately = record usual_growth { ended = ended } }

-- one environment lacks a poll for so long, and an attempt runs for so long
abbrev pub hanging : (unpolled_for running_for : ℕ) → Sight
hanging unpolled_for running_for = record well { without_poll = 1; unpolled_for = unpolled_for; running_for = running_for }

abbrev pub but_lately : Growth → Sight
but_lately growth = record well { lately = growth }

abbrev pub tried : (succeeded failed : ℕ) → Sight
tried succeeded failed = but_lately (record usual_growth { succeeded = succeeded; failed = failed })

abbrev pub committed : (commits microseconds quick : ℕ) → Sight
committed commits microseconds quick =
    but_lately (record usual_growth { commits = commits; commit_microseconds = microseconds; quick_commits = quick })

-- nothing of each kind
abbrev pub nothing : List (Option Problem)
nothing = None ∷ None ∷ None ∷ None ∷ None ∷ None ∷ None ∷ None ∷ None ∷ None ∷ None ∷ None ∷ None ∷ None ∷ None ∷ None ∷ []

-- accepted a second after 1970, to be given up a minute later
abbrev pub short_lived : EventRow
short_lived = record (event_row 1 1 (Waiting 1000)) { policy = record { retries = 2; age = 60 } }

-- looks at these moments, of which nothing more is known
abbrev pub looks : (older newer : ℕ) → Memory
looks older newer = record { older = none_at older; newer = none_at newer; ended = 0; quiet_since = older }
