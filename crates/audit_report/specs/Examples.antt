-- Worked examples: the numbers of a disk, and their line.
use Rattle.std.specs.Prelude.{ℕ, List, ◌++◌, None, Some, codes}
use Rattle.audit_report.specs.declared.numbers.Figures.{Figures}
use Rattle.audit_report.specs.declared.report.Older.TheVariants as older

-- of a disk that holds six events
abbrev pub used : Figures
used = record {
  generation = 3;
  number = 41;
  census = record {
    held = 6;
    waiting = 1;
    due_again = 2;
    running = 1;
    success = 1;
    retries_exhausted = 1;
    event_age_exceeded = 0;
  };
  oldest_waiting = Some 1573755365568;
  oldest_record = Some 1573755425568;
  older = older.Ahead 2;
  retries = 1;
  age = 3600;
}

abbrev pub used_text : List ℕ
used_text =
    codes "{\"generation\":3,\"number\":41,\"held\":6,\"waiting\":1,\"due_again\":2,\"running\":1,"
    ++ (codes "\"success\":1,\"retries_exhausted\":1,\"event_age_exceeded\":0,"
    ++ codes "\"oldest_waiting\":1573755365568,\"oldest_record\":1573755425568,\"older\":\"ahead 2\",\"retries\":1,\"age\":3600}")

-- of a disk that was just formatted
abbrev pub fresh : Figures
fresh = record {
  generation = 1;
  number = 0;
  census = record {
    held = 0;
    waiting = 0;
    due_again = 0;
    running = 0;
    success = 0;
    retries_exhausted = 0;
    event_age_exceeded = 0;
  };
  oldest_waiting = None;
  oldest_record = None;
  older = older.None;
  retries = 2;
  age = 21600;
}

abbrev pub fresh_text : List ℕ
fresh_text =
    codes "{\"generation\":1,\"number\":0,\"held\":0,\"waiting\":0,\"due_again\":0,\"running\":0,"
    ++ (codes "\"success\":0,\"retries_exhausted\":0,\"event_age_exceeded\":0,"
    ++ codes "\"oldest_waiting\":null,\"oldest_record\":null,\"older\":\"none\",\"retries\":2,\"age\":21600}")
