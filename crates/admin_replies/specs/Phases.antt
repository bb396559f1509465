-- What is remembered of the phases of environments: in which one the last look found each, and since when each look did. Moments are
-- those of a clock that nobody sets.
use Rattle.std.specs.Prelude.{ℕ, ◌-◌, nat_le, ◌&&◌, List, [], ◌∷◌, ◌++◌, codes, decimal, if◌then◌else◌}
use Rattle.env_phase.specs.declared.phase.Phase.{Phase}
use Rattle.env_phase.specs.declared.phase.Phase.TheVariants.{Init, Ready, Busy, Closing}
use Rattle.hall_plans.specs.declared.environment_status.EnvironmentStatus.{EnvironmentStatus}
use Rattle.port_meters.specs.Counting.{sum_up_to}
use Rattle.admin_replies.specs.declared.phase_memory.SeenPhase.{SeenPhase}
use Rattle.admin_replies.specs.declared.phase_memory.Unpolled.{Unpolled}
use Rattle.admin_replies.specs.Environments.{is_phase}
use Rattle.admin_replies.specs.Lines.{seconds_text}
use Rattle.admin_replies.specs.Table.{family}

-- what is remembered of an environment that is in this phase now
abbrev pub seen_after : SeenPhase → Phase → ℕ → SeenPhase
seen_after before phase now = if is_phase phase before.phase then before else record { phase = phase; since = now }

-- of each of these environments, of the first of which that was remembered
abbrev pub phases_noted : List EnvironmentStatus → List SeenPhase → ℕ → List SeenPhase
phases_noted [] seen now = []
phases_noted (status ∷ rest) [] now = record { phase = status.phase; since = now } ∷ phases_noted rest [] now
phases_noted (status ∷ rest) (before ∷ others) now = seen_after before status.phase now ∷ phases_noted rest others now

-- the environment, from this number on, that was found in init for the longest, and for how long; 0 where none was
abbrev pub unpolled_from : List SeenPhase → ℕ → ℕ → Unpolled
unpolled_from [] number now = record { environment = 0; time = 0 }
unpolled_from (first ∷ more) number now =
    if is_phase Init first.phase && nat_le (unpolled_from more (sum_up_to number 1) now).time (now - first.since)
    then record { environment = number; time = now - first.since }
    else unpolled_from more (sum_up_to number 1) now

-- ## Their text

abbrev pub phase_word : Phase → List ℕ
phase_word Init = codes "init"
phase_word Ready = codes "ready"
phase_word Busy = codes "busy"
phase_word Closing = codes "closing"

unfoldable pub line_begin : List ℕ
line_begin = codes "lambda_broker_environment_phase{environment=\""

unfoldable pub time_begin : List ℕ
time_begin = codes "lambda_broker_environment_phase_seconds{environment=\""

-- the phase of an environment, as a label
unfoldable pub phase_line : ℕ → SeenPhase → List ℕ
phase_line number s =
    line_begin ++ (decimal number ++ (codes "\",phase=\"" ++ (phase_word s.phase ++ codes "\"} 1\n")))

-- for how long, in seconds
unfoldable pub phase_time : ℕ → ℕ → SeenPhase → List ℕ
phase_time now number s =
    time_begin ++ (decimal number ++ (codes "\"} " ++ (seconds_text (now - s.since) ++ codes "\n")))

-- a line for each environment, from this number on
abbrev pub phase_lines : List SeenPhase → ℕ → List ℕ
phase_lines [] number = []
phase_lines (s ∷ seen) number = phase_line number s ++ phase_lines seen (sum_up_to number 1)

abbrev pub phase_times : ℕ → List SeenPhase → ℕ → List ℕ
phase_times now [] number = []
phase_times now (s ∷ seen) number = phase_time now number s ++ phase_times now seen (sum_up_to number 1)

unfoldable pub phases_begin : List ℕ
phases_begin = family "environment_phase" "gauge" "1 for the phase in which an environment was found."

unfoldable pub times_begin : List ℕ
times_begin = family "environment_phase_seconds" "gauge" "Time since a look found it there, and each one since."

unfoldable pub phases_text : List SeenPhase → ℕ → List ℕ
phases_text seen now = phases_begin ++ (phase_lines seen 1 ++ (times_begin ++ phase_times now seen 1))
