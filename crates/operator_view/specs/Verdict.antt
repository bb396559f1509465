-- What is wrong with a broker, by what its operator's port sees. The order is that in which it is told: causes come before what
-- follows from them.
use Rattle.std.specs.Prelude.{ℕ, ◌+◌, ◌-◌, ◌*◌, ◌/◌, nat_le, nat_lt, ◌&&◌, ◌||◌, Bool, List, [], ◌∷◌, Option, Some, None, min, if◌then◌else◌}
use Rattle.operator_view.specs.declared.memory.Growth.{Growth}
use Rattle.operator_view.specs.declared.sight.Sight.{Sight}
use Rattle.operator_view.specs.declared.problem.Problem.{Problem}
use Rattle.operator_view.specs.declared.problem.Problem.TheVariants as problem

-- ## The machine

-- a flush has been under way for long
abbrev pub disk_hangs : Sight → Option Problem
disk_hangs s = if nat_lt 0 s.flush_seconds then Some (problem.DiskHangs s.flush_seconds) else None

-- by how many milliseconds the last command's moment is ahead of the system's clock, which may be held back
abbrev pub ahead_of_clock : Sight → ℕ
ahead_of_clock s = s.last_moment - s.at - s.held_ahead

-- the last command was of a moment that comes in more than five seconds by the system's clock: until then no retry is due, and nothing
-- is too old or timed out
abbrev pub clock_is_behind : Sight → Option Problem
clock_is_behind s =
    if nat_lt 5000 (ahead_of_clock s) then Some (problem.ClockIsBehind (ahead_of_clock s / 1000)) else None

-- the clock was set ahead, and what waits does not go by it yet
abbrev pub clock_is_held_back : Sight → Option Problem
clock_is_held_back s =
    if nat_lt 0 s.held_ahead then Some (problem.ClockIsHeldBack (s.held_ahead / 1000) (s.held_left / 1000)) else None

-- lately the clock was set ahead when it was set last, or it was set more than once: ahead and back again, say
abbrev pub has_jumped : Sight → Bool
has_jumped s = (nat_lt 0 s.lately.clock_steps && nat_lt 0 s.set_ahead) || nat_le 2 s.lately.clock_steps

-- events were given up lately, and the clock has jumped
abbrev pub events_expired_by_a_jump : Sight → Option Problem
events_expired_by_a_jump s =
    if nat_lt 0 s.lately.expired && has_jumped s
    then Some (problem.EventsExpiredByAJump s.lately.expired s.lately.clock_steps (s.set_ahead / 1000) s.lately.seconds)
    else None

-- ## Environments

-- a poll is missing in an environment: the runtime's, or that of an extension
abbrev pub nobody_polls : Sight → Option Problem
nobody_polls s = if nat_lt 0 s.without_poll then Some (problem.NobodyPolls s.without_poll s.environments s.due) else None

-- for how many seconds an environment has lacked a poll, where that is more than a minute and another one lacks none; else 0
abbrev pub unpolled_seconds : Sight → ℕ
unpolled_seconds s = if nat_lt 60000 s.unpolled_for && nat_lt s.without_poll s.environments then s.unpolled_for / 1000 else 0

abbrev pub tried : Growth → ℕ
tried g = g.succeeded + g.failed

-- attempts took less than half a minute on average lately: each environment had no more time for so many
abbrev pub are_quick : Sight → Bool
are_quick s = nat_lt 0 s.environments && nat_lt (s.lately.seconds / 30) (tried s.lately / s.environments)

-- for how many seconds an attempt has run, where that is more than a minute and others were quick; else 0
abbrev pub running_seconds : Sight → ℕ
running_seconds s = if nat_lt 60000 s.running_for && are_quick s then s.running_for / 1000 else 0

-- one is gone or hangs, and the others work
abbrev pub environment_hangs : Sight → Option Problem
environment_hangs s =
    if nat_lt 0 (unpolled_seconds s) || nat_lt 0 (running_seconds s)
    then Some (problem.EnvironmentHangs s.unpolled (unpolled_seconds s) (running_seconds s))
    else None

-- for how many milliseconds nothing has ended while this event was due
abbrev pub quiet_for : Sight → ℕ → ℕ
quiet_for s due = min (s.at - due) s.quiet

-- that is longer than an attempt may run, by more than six seconds
abbrev pub nothing_ends_while : Sight → Option ℕ → Option Problem
nothing_ends_while s None = None
nothing_ends_while s (Some due) =
    if nat_lt (1000 * (s.timeout + 6)) (quiet_for s due)
    then Some (problem.NothingEnds (quiet_for s due / 1000) s.due s.timeout s.lately.started)
    else None

abbrev pub nothing_ends : Sight → Option Problem
nothing_ends s = nothing_ends_while s s.first_due

-- at least five, and more than succeeded
abbrev pub most_attempts_fail : Sight → Option Problem
most_attempts_fail s =
    if nat_le 5 s.lately.failed && nat_lt s.lately.succeeded s.lately.failed
    then Some (problem.MostAttemptsFail s.lately.failed s.lately.succeeded s.lately.seconds)
    else None

-- they take a tenth of a second and more on average, or one in twenty takes more than half a second
abbrev pub is_slow : Growth → Bool
is_slow g = nat_le (100000 * g.commits) g.commit_microseconds || nat_le g.commits (20 * (g.commits - g.quick_commits))

-- of at least five commits
abbrev pub commits_are_slow : Sight → Option Problem
commits_are_slow s =
    if nat_le 5 s.lately.commits && is_slow s.lately
    then Some (problem.CommitsAreSlow s.lately.commits s.lately.commit_microseconds (s.lately.commits - s.lately.quick_commits) s.lately.seconds)
    else None

-- ## What waits

-- each environment is busy, and this event has been due for more than ten seconds: none was free in these
abbrev pub all_busy_while : Sight → Option ℕ → Option Problem
all_busy_while s None = None
all_busy_while s (Some due) =
    if (nat_lt 0 s.environments && nat_le s.environments s.busy) && nat_lt 10000 (s.at - due)
    then Some (problem.AllBusy s.environments s.running s.due ((s.at - due) / 1000))
    else None

abbrev pub all_busy : Sight → Option Problem
all_busy s = all_busy_while s s.first_due

-- more came than ended lately, and this event has been due for more than two minutes
abbrev pub backlog_grows_while : Sight → Option ℕ → Option Problem
backlog_grows_while s None = None
backlog_grows_while s (Some due) =
    if nat_lt s.lately.ended s.lately.accepted && nat_lt 120000 (s.at - due)
    then Some (problem.BacklogGrows s.lately.accepted s.lately.ended ((s.at - due) / 1000) s.lately.seconds)
    else None

abbrev pub backlog_grows : Sight → Option Problem
backlog_grows s = backlog_grows_while s s.first_due

-- ## The table

-- the oldest one for more than a quarter of an hour
abbrev pub stays : ℕ → Option ℕ → Option Problem
stays records None = None
stays records (Some age) = if nat_lt 900000 age then Some (problem.RecordsNotCollected records (age / 1000)) else None

abbrev pub records_not_collected : Sight → Option Problem
records_not_collected s = stays s.ended s.oldest_record_age

abbrev pub table_full : Sight → Option Problem
table_full s = if nat_le s.most_events s.held then Some (problem.TableFull s.held s.most_events s.ended) else None

-- four fifths of the table, and not all of it
abbrev pub table_nearly_full : Sight → Option Problem
table_nearly_full s =
    if nat_le (4 * s.most_events) (5 * s.held) && nat_lt s.held s.most_events
    then Some (problem.TableNearlyFull s.held s.most_events s.ended)
    else None

-- with 429, as the table is full, or with 503, as too much is under way
abbrev pub callers_are_refused : Sight → Option Problem
callers_are_refused s =
    if nat_lt 0 s.lately.refused_full || nat_lt 0 s.lately.refused_busy
    then Some (problem.CallersAreRefused s.lately.refused_full s.lately.refused_busy s.lately.seconds)
    else None

-- an event that waits is old, or some were given up lately
abbrev pub events_expire : Sight → Option Problem
events_expire s =
    if nat_lt 0 s.expiring || nat_lt 0 s.lately.expired
    then Some (problem.EventsExpire s.expiring s.lately.expired s.lately.seconds)
    else None

-- ## All of it

-- all that can be wrong, and nothing else
unfoldable pub problems : Sight → List (Option Problem)
problems s =
    disk_hangs s
    ∷ clock_is_behind s
    ∷ clock_is_held_back s
    ∷ events_expired_by_a_jump s
    ∷ nobody_polls s
    ∷ environment_hangs s
    ∷ nothing_ends s
    ∷ most_attempts_fail s
    ∷ commits_are_slow s
    ∷ all_busy s
    ∷ backlog_grows s
    ∷ records_not_collected s
    ∷ table_full s
    ∷ table_nearly_full s
    ∷ callers_are_refused s
    ∷ events_expire s
    ∷ []
