-- Worked lives: settings, commands, and the histories that they make.
use Rattle.std.specs.Prelude.{ℕ, ◌+◌, List, [], ◌∷◌}
use Rattle.retry_rules.specs.declared.settings.Settings.{Settings}
use Rattle.invoke_records.specs.declared.command.Command.{Command}
use Rattle.invoke_records.specs.declared.command.Kind.{Kind}
use Rattle.invoke_records.specs.declared.command.Kind.TheVariants.{Accept, Start, Succeed, Fail, Interrupt, Collect, Configure}
use Rattle.invoke_records.specs.declared.command.Cause.TheVariants.{Reported}

-- ## Settings

-- two retries, six hours, three seconds, and room for four events
abbrev pub usual : Settings
usual =
    record {
      retries = 2;
      age = 21600;
      timeout = 3;
      concurrency = 10;
      environments = 1;
      events = 4;
      payload = 1024;
      response = 1024;
      name = [];
      handler = [];
      arn = [];
    }

abbrev pub no_retries : Settings
no_retries = record usual { retries = 0 }

abbrev pub for_one_minute : Settings
for_one_minute = record usual { age = 60 }

abbrev pub for_two_events : Settings
for_two_events = record usual { events = 2 }

abbrev pub one_at_once : Settings
one_at_once = record usual { concurrency = 1 }

-- ## Commands: the event's number, and the moment

abbrev pub id : ℕ → List ℕ
id n = 0 ∷ 0 ∷ 0 ∷ 0 ∷ 0 ∷ 0 ∷ 64 ∷ 0 ∷ 128 ∷ 0 ∷ 0 ∷ 0 ∷ 0 ∷ 0 ∷ 0 ∷ n ∷ []

abbrev pub zeros : List ℕ
zeros = 0 ∷ 0 ∷ 0 ∷ 0 ∷ 0 ∷ 0 ∷ 0 ∷ 0 ∷ 0 ∷ 0 ∷ 0 ∷ 0 ∷ 0 ∷ 0 ∷ 0 ∷ 0 ∷ []

abbrev pub accept : ℕ → ℕ → Command
accept n t = record { kind = Accept; id = id n; environment = 0; time = t; bytes = 123 ∷ 125 ∷ [] }

abbrev pub start : ℕ → ℕ → Command
start n t = record { kind = Start; id = id n; environment = 1; time = t; bytes = [] }

abbrev pub does : Kind → ℕ → ℕ → Command
does kind n t = record { kind = kind; id = id n; environment = 0; time = t; bytes = [] }

-- retries and age are these from now on
abbrev pub configure : ℕ → ℕ → ℕ → Command
configure retries age t =
    record { kind = Configure (record { retries = retries; age = age }); id = zeros; environment = 0; time = t; bytes = [] }

-- an attempt that fails half a second after it starts
abbrev pub fails : ℕ → List Command → List Command
fails t later = start 1 t ∷ does (Fail Reported) 1 (t + 500) ∷ later

-- ## Histories of event 1

abbrev pub accepted_late : List Command
accepted_late = accept 1 1000000 ∷ []

abbrev pub failed_once : List Command
failed_once = accept 1 1000000 ∷ fails 1000000 []

abbrev pub failed_twice : List Command
failed_twice = accept 1 1000000 ∷ fails 1000000 (fails 1060500 [])

abbrev pub failed_thrice : List Command
failed_thrice = accept 1 1000000 ∷ fails 1000000 (fails 1060500 (fails 1181000 []))

abbrev pub accepted_early : List Command
accepted_early = accept 1 1000 ∷ []

abbrev pub started : List Command
started = accept 1 1000 ∷ start 1 1000 ∷ []

abbrev pub cut_off_once : List Command
cut_off_once = accept 1 1000 ∷ start 1 1000 ∷ does Interrupt 1 5000 ∷ []

abbrev pub cut_off_twice : List Command
cut_off_twice = accept 1 1000 ∷ start 1 1000 ∷ does Interrupt 1 5000 ∷ start 1 6000 ∷ does Interrupt 1 7000 ∷ []

-- ## Histories of two events

abbrev pub both_accepted : List Command
both_accepted = accept 1 1000 ∷ accept 2 1000 ∷ []

-- event 2 runs, and event 1 waits
abbrev pub second_runs : List Command
second_runs = accept 2 1000 ∷ start 2 1000 ∷ accept 1 1000 ∷ []

-- event 1 has succeeded and was collected, and event 2 waits
abbrev pub first_collected : List Command
first_collected = accept 1 1000 ∷ accept 2 1000 ∷ start 1 1000 ∷ does Succeed 1 1000 ∷ does Collect 1 1000 ∷ []

-- and event 1 was accepted again
abbrev pub accepted_anew : List Command
accepted_anew = accept 1 1000 ∷ accept 2 1000 ∷ start 1 1000 ∷ does Succeed 1 1000 ∷ does Collect 1 1000 ∷ accept 1 1000 ∷ []

-- ## Histories with a Configure

-- event 1 is accepted by the settings, and event 2 by no retries and an age of a minute
abbrev pub configured : List Command
configured = accept 1 1000 ∷ configure 0 60 1000 ∷ accept 2 1000 ∷ []

-- event 1 fails
abbrev pub first_failed_on : List Command
first_failed_on = accept 1 1000 ∷ configure 0 60 1000 ∷ accept 2 1000 ∷ start 1 1000 ∷ does (Fail Reported) 1 1500 ∷ []

-- and event 2 too
abbrev pub both_failed : List Command
both_failed =
    accept 1 1000 ∷ configure 0 60 1000 ∷ accept 2 1000 ∷ start 1 1000 ∷ does (Fail Reported) 1 1500
    ∷ start 2 1500 ∷ does (Fail Reported) 2 2000 ∷ []

-- and event 3 is accepted
abbrev pub third_accepted : List Command
third_accepted =
    accept 1 1000 ∷ configure 0 60 1000 ∷ accept 2 1000 ∷ start 1 1000 ∷ does (Fail Reported) 1 1500
    ∷ start 2 1500 ∷ does (Fail Reported) 2 2000 ∷ accept 3 2000 ∷ []
