-- What is remembered of the looks at a broker: counts of two moments, and since when no event has ended. Moments are those of a
-- clock that nobody sets.
use Rattle.std.specs.Prelude.{ℕ, ◌-◌, ◌/◌, ◌==◌, nat_le, if◌then◌else◌}
use Rattle.operator_view.specs.declared.memory.Counts.{Counts}
use Rattle.operator_view.specs.declared.memory.Growth.{Growth}
use Rattle.operator_view.specs.declared.memory.Memory.{Memory}

-- by how much counts have grown
abbrev pub grown : (earlier seen : Counts) → Growth
grown earlier seen = record {
  seconds = (seen.at - earlier.at) / 1000;
  accepted = seen.accepted - earlier.accepted;
  started = seen.started - earlier.started;
  succeeded = seen.succeeded - earlier.succeeded;
  failed = seen.failed - earlier.failed;
  ended = seen.ended - earlier.ended;
  expired = seen.expired - earlier.expired;
  commits = seen.commits - earlier.commits;
  commit_microseconds = seen.commit_microseconds - earlier.commit_microseconds;
  quick_commits = seen.quick_commits - earlier.quick_commits;
  refused_full = seen.refused_full - earlier.refused_full;
  refused_busy = seen.refused_busy - earlier.refused_busy;
  clock_steps = seen.clock_steps - earlier.clock_steps;
}

-- nothing was counted until then
abbrev pub none_at : ℕ → Counts
none_at at = record {
  at = at;
  accepted = 0;
  started = 0;
  succeeded = 0;
  failed = 0;
  ended = 0;
  expired = 0;
  commits = 0;
  commit_microseconds = 0;
  quick_commits = 0;
  refused_full = 0;
  refused_busy = 0;
  clock_steps = 0;
}

-- of a broker that is opened
abbrev pub begun : ℕ → Memory
begun now = record { older = none_at now; newer = none_at now; ended = 0; quiet_since = now }

-- a look that finds as many that ended tells nothing new; another one, that the last did so before it
abbrev pub quiet_after : Memory → Counts → ℕ
quiet_after m seen = if m.ended == seen.ended then m.quiet_since else seen.at

-- counts that were kept for 150 seconds give way to those of a look
abbrev pub looked : Memory → Counts → Memory
looked m seen =
    if nat_le 150000 (seen.at - m.newer.at)
    then record { older = m.newer; newer = seen; ended = seen.ended; quiet_since = quiet_after m seen }
    else record { older = m.older; newer = m.newer; ended = seen.ended; quiet_since = quiet_after m seen }

-- since the older counts, unless nobody looked for ten minutes: then since the newer ones
abbrev pub lately : Memory → Counts → Growth
lately m seen = if nat_le (seen.at - m.older.at) 600000 then grown m.older seen else grown m.newer seen
