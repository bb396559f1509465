-- Worked examples: requests, and numbers with some of the lines that tell them.
use Rattle.std.specs.Prelude.{◌≡◌, ℕ, Bool, List, [], ◌∷◌, ◌++◌, false, true, Option, Result, Some, None, option_map, codes, string_bytes}
use Prim.Native.String.{String}
use Rattle.port_meters.specs.declared.version.Version.{Version}
use Rattle.retry_rules.specs.declared.settings.Settings.{Settings}
use Rattle.env_phase.specs.declared.phase.Phase.TheVariants.{Init, Ready, Busy}
use Rattle.hall_plans.specs.declared.environment_status.EnvironmentStatus.{EnvironmentStatus}
use Rattle.operator_view.specs.declared.problem.Problem.TheVariants as problem
use Rattle.admin_replies.specs.declared.admin_request.AdminRequest.{AdminRequest}
use Rattle.admin_replies.specs.declared.admin_refusal.AdminRefusal.{AdminRefusal}
use Rattle.admin_replies.specs.declared.metrics.Metrics.{Metrics}
use Rattle.admin_replies.specs.declared.phase_memory.SeenPhase.{SeenPhase}
use Rattle.admin_replies.specs.declared.sample.Sample.{Sample}
use Rattle.admin_replies.specs.Collecting.{brings_list, ids_in}
use Rattle.admin_replies.specs.Requests.{asked_of, id_of}
use Rattle.admin_replies.specs.Retrying.{record_named}

abbrev pub asks : String → String → Result AdminRequest AdminRefusal
asks method target = asked_of (codes method) (codes target)

abbrev pub brings : String → String → Bool
brings method target = brings_list (codes method) (codes target)

abbrev pub names : String → String → Option (Option (List ℕ))
names method target = option_map id_of (record_named (codes method) (codes target))

abbrev pub listed : String → List (Option (List ℕ))
listed text = ids_in (codes text)

abbrev pub gets : String → Result AdminRequest AdminRefusal
gets target = asks "GET" target

-- 00000000-0000-4000-8000-000000000003
abbrev pub third : List ℕ
third = 0 ∷ 0 ∷ 0 ∷ 0 ∷ 0 ∷ 0 ∷ 64 ∷ 0 ∷ 128 ∷ 0 ∷ 0 ∷ 0 ∷ 0 ∷ 0 ∷ 0 ∷ 3 ∷ []

-- each number is another one
abbrev pub numbers : Metrics
numbers = record {
  census = record { held = 21; waiting = 1; due_again = 2; running = 3; success = 4; retries_exhausted = 5; event_age_exceeded = 6 };
  oldest_wait_age = Some 61007;
  oldest_record_age = None;
  issued = 1000001;
  durable = 1000000;
  pending = 7;
  open_slots = 8;
  parked_polls = 9;
  environments = record { init = 10; ready = 11; busy = 12; closing = 13 };
  events = record {
    accepted = 14;
    success = 15;
    retries_exhausted = 16;
    event_age_exceeded = 17;
    collected = 18;
    started = 19;
    failed = 46;
    throttled = 20;
    interrupted = 22;
  };
  lives = record { buckets = 95 ∷ 96 ∷ 97 ∷ 98 ∷ 99 ∷ 100 ∷ 101 ∷ 102 ∷ []; all = 103; milliseconds = 104 };
  process = record {
    commits = 31;
    switches = 32;
    written_bytes = 18446744073709551615;
    commit_microseconds = 4500042;
    buckets = 23 ∷ 24 ∷ 25 ∷ 26 ∷ 27 ∷ 28 ∷ 29 ∷ 30 ∷ [];
    generation = 34;
    bytes = 35;
    free_bytes = 36;
    resident_bytes = 37;
    started_at = 47;
    is_stopping = true;
    has_fault = false;
    refused = record {
      bad_request = 38;
      not_found = 39;
      conflict = 40;
      too_large = 41;
      too_many = 43;
      unavailable = 44;
      other = 45;
    };
  };
  ports = record {
    callers = 55;
    environments = 56;
    operator = 57;
    unread = record {
      bad_head = 58;
      head_too_large = 59;
      head_cut_off = 60;
      head_late = 61;
      body_cut_off = 62;
      body_late = 63;
      forbidden = 64;
    };
    calls = record { buckets = 65 ∷ 66 ∷ 67 ∷ 68 ∷ 69 ∷ 70 ∷ 71 ∷ 72 ∷ []; all = 73; microseconds = 74 };
    reports = record { buckets = 75 ∷ 76 ∷ 77 ∷ 78 ∷ 79 ∷ 80 ∷ 81 ∷ 82 ∷ []; all = 83; microseconds = 84 };
    polls = record { buckets = 85 ∷ 86 ∷ 87 ∷ 88 ∷ 89 ∷ 90 ∷ 91 ∷ 92 ∷ []; all = 93; microseconds = 94 };
  };
  limits = record { retries = 48; age = 49; timeout = 50; concurrency = 51; events = 52; payload = 53; response = 54 };
  noticed = record { flush_seconds = 105; clock = record { steps = 106; is_back = true; millis = 3600007 }; lines_dropped = 107 };
  problems =
      None ∷ None ∷ None ∷ None ∷ Some (problem.NobodyPolls 1 2 3) ∷ None ∷ None ∷ None ∷ None ∷ None ∷ None ∷ None ∷ None ∷ None ∷ None ∷ None ∷ [];
}

abbrev pub usual : Settings
usual = record {
  retries = 2;
  age = 21600;
  timeout = 3;
  concurrency = 4;
  environments = 5;
  events = 64;
  payload = 262144;
  response = 1024;
  name = codes "my-function";
  handler = codes "index.handler";
  arn = codes "arn:aws:lambda:us-east-2:123456789012:function:my-function";
}

-- without a stamp
abbrev pub bare : Version → Type 0
bare v = (string_bytes v.text ≡ codes "0.1.0") × (v.kit ≡ None) × (v.is_proved ≡ false)

-- where the events stand
abbrev pub held_text : List ℕ
held_text =
    codes "# HELP lambda_broker_events Events that are held, by where they stand.\n"
    ++ (codes "# TYPE lambda_broker_events gauge\n"
    ++ (codes "lambda_broker_events{standing=\"waiting\"} 1\n"
    ++ (codes "lambda_broker_events{standing=\"due_again\"} 2\n"
    ++ (codes "lambda_broker_events{standing=\"running\"} 3\n"
    ++ (codes "lambda_broker_events{standing=\"success\"} 4\n"
    ++ (codes "lambda_broker_events{standing=\"retries_exhausted\"} 5\n" ++ codes "lambda_broker_events{standing=\"event_age_exceeded\"} 6\n"))))))

-- what waits
abbrev pub waits_text : List ℕ
waits_text =
    codes "# HELP lambda_broker_oldest_wait_age_seconds Age of the oldest event that waits, 0 where none does.\n"
    ++ (codes "# TYPE lambda_broker_oldest_wait_age_seconds gauge\n"
    ++ (codes "lambda_broker_oldest_wait_age_seconds 61.007\n"
    ++ (codes "# HELP lambda_broker_oldest_record_age_seconds Time since the oldest record that is held was made, 0 where none is.\n"
    ++ (codes "# TYPE lambda_broker_oldest_record_age_seconds gauge\n"
    ++ (codes "lambda_broker_oldest_record_age_seconds 0.000\n"
    ++ (codes "# HELP lambda_broker_pending_commands Commands that are issued and not yet durable.\n"
    ++ (codes "# TYPE lambda_broker_pending_commands gauge\n"
    ++ (codes "lambda_broker_pending_commands 7\n"
    ++ (codes "# HELP lambda_broker_open_slots Requests that wait for their reply.\n"
    ++ (codes "# TYPE lambda_broker_open_slots gauge\n"
    ++ (codes "lambda_broker_open_slots 8\n"
    ++ (codes "# HELP lambda_broker_parked_polls Long polls that wait for something to tell.\n"
    ++ (codes "# TYPE lambda_broker_parked_polls gauge\n" ++ codes "lambda_broker_parked_polls 9\n")))))))))))))

-- how long commits took
abbrev pub commits_text : List ℕ
commits_text =
    codes "# HELP lambda_broker_commit_seconds Time that a commit took.\n"
    ++ (codes "# TYPE lambda_broker_commit_seconds histogram\n"
    ++ (codes "lambda_broker_commit_seconds_bucket{le=\"0.001\"} 23\n"
    ++ (codes "lambda_broker_commit_seconds_bucket{le=\"0.0025\"} 24\n"
    ++ (codes "lambda_broker_commit_seconds_bucket{le=\"0.005\"} 25\n"
    ++ (codes "lambda_broker_commit_seconds_bucket{le=\"0.01\"} 26\n"
    ++ (codes "lambda_broker_commit_seconds_bucket{le=\"0.025\"} 27\n"
    ++ (codes "lambda_broker_commit_seconds_bucket{le=\"0.1\"} 28\n"
    ++ (codes "lambda_broker_commit_seconds_bucket{le=\"0.5\"} 29\n"
    ++ (codes "lambda_broker_commit_seconds_bucket{le=\"2.5\"} 30\n"
    ++ (codes "lambda_broker_commit_seconds_bucket{le=\"+Inf\"} 31\n"
    ++ (codes "lambda_broker_commit_seconds_sum 4.500042\n" ++ codes "lambda_broker_commit_seconds_count 31\n")))))))))))

-- the version and the function
abbrev pub usual_text : List ℕ
usual_text =
    codes "# HELP lambda_broker_build_info The version of the program.\n# TYPE lambda_broker_build_info gauge\n"
    ++ (codes "lambda_broker_build_info{version=\"0.1.0\",kit=\"\",state=\"unproved\",} 1\n"
    ++ (codes "# HELP lambda_broker_settings_info The function.\n# TYPE lambda_broker_settings_info gauge\n"
    ++ (codes "lambda_broker_settings_info{function=\"my-function\","
    ++ codes "arn=\"arn:aws:lambda:us-east-2:123456789012:function:my-function\",handler=\"index.handler\",} 1\n")))

-- what is wrong: nobody polls
abbrev pub problems_text : List ℕ
problems_text =
    codes "# HELP lambda_broker_problem 1 where this is wrong, else 0.\n# TYPE lambda_broker_problem gauge\n"
    ++ (codes "lambda_broker_problem{reason=\"disk_hangs\"} 0\n"
    ++ (codes "lambda_broker_problem{reason=\"clock_is_behind\"} 0\n"
    ++ (codes "lambda_broker_problem{reason=\"clock_is_held_back\"} 0\n"
    ++ (codes "lambda_broker_problem{reason=\"events_expired_by_a_jump\"} 0\n"
    ++ (codes "lambda_broker_problem{reason=\"nobody_polls\"} 1\n"
    ++ (codes "lambda_broker_problem{reason=\"environment_hangs\"} 0\n"
    ++ (codes "lambda_broker_problem{reason=\"nothing_ends\"} 0\n"
    ++ (codes "lambda_broker_problem{reason=\"most_attempts_fail\"} 0\n"
    ++ (codes "lambda_broker_problem{reason=\"commits_are_slow\"} 0\n"
    ++ (codes "lambda_broker_problem{reason=\"all_busy\"} 0\n"
    ++ (codes "lambda_broker_problem{reason=\"backlog_grows\"} 0\n"
    ++ (codes "lambda_broker_problem{reason=\"records_not_collected\"} 0\n"
    ++ (codes "lambda_broker_problem{reason=\"table_full\"} 0\n"
    ++ (codes "lambda_broker_problem{reason=\"table_nearly_full\"} 0\n"
    ++ (codes "lambda_broker_problem{reason=\"callers_are_refused\"} 0\n" ++ codes "lambda_broker_problem{reason=\"events_expire\"} 0\n")))))))))))))))

-- what was noticed of the premises
abbrev pub premises_text : List ℕ
premises_text =
    codes "# HELP lambda_broker_flush_seconds Time that the flush has taken that is under way, once these are five seconds, else 0.\n"
    ++ (codes "# TYPE lambda_broker_flush_seconds gauge\n"
    ++ (codes "lambda_broker_flush_seconds 105\n"
    ++ (codes "# HELP lambda_broker_clock_step_seconds Time by which the clock was set last, below 0 where it was set back.\n"
    ++ (codes "# TYPE lambda_broker_clock_step_seconds gauge\n"
    ++ (codes "lambda_broker_clock_step_seconds -3600.007\n"
    ++ (codes "# HELP lambda_broker_clock_steps_total Times that the clock was set.\n"
    ++ (codes "# TYPE lambda_broker_clock_steps_total counter\n"
    ++ (codes "lambda_broker_clock_steps_total 106\n"
    ++ (codes "# HELP lambda_broker_lines_dropped_total Lines that standard error did not take.\n"
    ++ (codes "# TYPE lambda_broker_lines_dropped_total counter\n" ++ codes "lambda_broker_lines_dropped_total 107\n"))))))))))

-- two environments: the first is in init since the 4000th millisecond, the second was found busy then, and is ready since the 5500th
abbrev pub phases : List SeenPhase
phases = record { phase = Init; since = 4000 } ∷ record { phase = Ready; since = 5500 } ∷ []

abbrev pub statuses : List EnvironmentStatus
statuses = record { number = 1; phase = Init; parked = 0 } ∷ record { number = 2; phase = Ready; parked = 1 } ∷ []

abbrev pub earlier_phases : List SeenPhase
earlier_phases = record { phase = Init; since = 4000 } ∷ record { phase = Busy; since = 4000 } ∷ []

abbrev pub phases_told : List ℕ
phases_told =
    codes "# HELP lambda_broker_environment_phase 1 for the phase in which an environment was found.\n"
    ++ (codes "# TYPE lambda_broker_environment_phase gauge\n"
    ++ (codes "lambda_broker_environment_phase{environment=\"1\",phase=\"init\"} 1\n"
    ++ (codes "lambda_broker_environment_phase{environment=\"2\",phase=\"ready\"} 1\n"
    ++ (codes "# HELP lambda_broker_environment_phase_seconds Time since a look found it there, and each one since.\n"
    ++ (codes "# TYPE lambda_broker_environment_phase_seconds gauge\n"
    ++ (codes "lambda_broker_environment_phase_seconds{environment=\"1\"} 2.005\n" ++ codes "lambda_broker_environment_phase_seconds{environment=\"2\"} 0.505\n"))))))

-- a sample, in which each number is another one too
abbrev pub sample : Sample
sample = record {
  at = 1573755365568;
  counts = record {
    at = 1;
    accepted = 12;
    started = 2;
    succeeded = 3;
    failed = 4;
    ended = 5;
    expired = 6;
    commits = 7;
    commit_microseconds = 8;
    quick_commits = 9;
    refused_full = 10;
    refused_busy = 11;
    clock_steps = 16;
  };
  collected = 13;
  waiting = 14;
  written_bytes = 15;
}

abbrev pub history_text : List ℕ
history_text =
    codes "at,accepted,started,succeeded,failed,ended,collected,waiting,refused_full,refused_busy,commits,commit_microseconds,written_bytes\n"
    ++ codes "1573755365568,12,2,3,4,5,13,14,10,11,7,8,15\n"
