-- The runs that the hall under the lock stands for.
use Rattle.std.specs.Prelude.{◌≡◌, List}
use Rattle.retry_rules.specs.declared.settings.Settings.{Settings}
use Rattle.invoke_records.specs.declared.snapshot.Snapshot.{Snapshot}
use Rattle.invoke_records.specs.declared.command.Command.{Command}
use Rattle.async_core.specs.History.{IsLegal, table_of}
use Rattle.hall_plans.specs.Past.{HallCall, opening}
use Rattle.hall_plans.specs.Run.{past_of}
use Rattle.hall_plans.specs.Agreement.{IsRun}
use Rattle.hall_core.specs.Hall.{HallView, StandsFor, settings_in}

-- the history is legal, and the table is that of it
pub record LeavesTable (s : Settings) (history : List Command) (table : Snapshot) : Type 0 where
  pub legal : IsLegal s history
  pub table_is : table ≡ table_of s history

-- a run on this history, of which no call was refused, and that the hall stands for
pub record HasRun (s : Settings) (history : List Command) (hall : HallView) : Type 0 where
  pub calls : List HallCall
  pub run : IsRun s (opening hall.wanted history) calls
  pub stands : StandsFor hall (past_of s hall.wanted history calls)

-- for each history that leaves the table of the opening there is such a run
abbrev pub HasRuns : HallView → Snapshot → Type 0
HasRuns hall opened = (history : List Command) → LeavesTable (settings_in hall) history opened → HasRun (settings_in hall) history hall
