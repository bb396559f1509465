-- The numbers that are known while a flush hangs, without a look at the table. Those of the table are 0 here, and are not told.
use Rattle.std.specs.Prelude.{ℕ, false, List, [], ◌∷◌, Option, Some, None}
use Rattle.operator_view.specs.declared.numbers.Census.{Census}
use Rattle.operator_view.specs.declared.problem.Problem.{Problem}
use Rattle.operator_view.specs.declared.problem.Problem.TheVariants as problem
use Rattle.receipts.specs.declared.lives.Lives.{Lives}
use Rattle.admin_replies.specs.declared.measuring.Measures.{Measures}
use Rattle.admin_replies.specs.declared.metrics.EventCounters.{EventCounters}
use Rattle.admin_replies.specs.declared.metrics.Limits.{Limits}
use Rattle.admin_replies.specs.declared.metrics.Metrics.{Metrics}
use Rattle.admin_replies.specs.declared.metrics.Phases.{Phases}
use Rattle.admin_replies.specs.Numbers.{noticed_by, process_told}

abbrev pub no_census : Census
no_census = record { held = 0; waiting = 0; due_again = 0; running = 0; success = 0; retries_exhausted = 0; event_age_exceeded = 0 }

abbrev pub no_events : EventCounters
no_events = record {
  accepted = 0;
  success = 0;
  retries_exhausted = 0;
  event_age_exceeded = 0;
  collected = 0;
  started = 0;
  failed = 0;
  throttled = 0;
  interrupted = 0;
}

abbrev pub no_lives : Lives
no_lives = record { buckets = 0 ∷ 0 ∷ 0 ∷ 0 ∷ 0 ∷ 0 ∷ 0 ∷ 0 ∷ []; all = 0; milliseconds = 0 }

abbrev pub no_phases : Phases
no_phases = record { init = 0; ready = 0; busy = 0; closing = 0 }

abbrev pub no_limits : Limits
no_limits = record { retries = 0; age = 0; timeout = 0; concurrency = 0; events = 0; payload = 0; response = 0 }

-- a flush has been under way for so long
abbrev pub stalled_problems : ℕ → List (Option Problem)
stalled_problems seconds =
    Some (problem.DiskHangs seconds)
    ∷ None ∷ None ∷ None ∷ None ∷ None ∷ None ∷ None ∷ None ∷ None ∷ None ∷ None ∷ None ∷ None ∷ None ∷ None ∷ []

abbrev pub stalled_metrics : Measures → Metrics
stalled_metrics measures = record {
  census = no_census;
  oldest_wait_age = None;
  oldest_record_age = None;
  issued = 0;
  durable = 0;
  pending = 0;
  open_slots = 0;
  parked_polls = 0;
  environments = no_phases;
  events = no_events;
  lives = no_lives;
  process = process_told measures false;
  ports = measures.ports;
  limits = no_limits;
  noticed = noticed_by measures;
  problems = stalled_problems measures.flush_seconds;
}
