-- The histories that a table stands for: what is said of each of them, by the settings of the table.
use Rattle.std.specs.Prelude.{◌≡◌, [], ◌∷◌, ◌++◌, None, List}
use Rattle.retry_rules.specs.Settings.{bad_field}
use Rattle.retry_rules.specs.declared.settings.Settings.{Settings}
use Rattle.invoke_records.specs.declared.snapshot.Snapshot.{Snapshot}
use Rattle.invoke_records.specs.declared.command.Command.{Command}
use Rattle.async_core.specs.State.{State}
use Rattle.async_core.specs.History.{IsLegal, table_of, refusal_of}

-- this holds of each history that the table stands for
abbrev pub ForEachHistory : State → (Settings → List Command → Type 0) → Type 0
ForEachHistory t holds = (history : List Command) → t.table ≡ table_of t.settings history → holds t.settings history

-- this holds of each legal history that the table stands for
abbrev pub ForEachLegalHistory : State → (Settings → List Command → Type 0) → Type 0
ForEachLegalHistory t holds =
    (history : List Command) → IsLegal t.settings history → t.table ≡ table_of t.settings history → holds t.settings history

-- this holds of each legal history that the table stands for, if each field of its settings is within its range
abbrev pub ForEachGoodHistory : State → (Settings → List Command → Type 0) → Type 0
ForEachGoodHistory t holds =
    (history : List Command) → bad_field t.settings ≡ None → IsLegal t.settings history
    → t.table ≡ table_of t.settings history → holds t.settings history

-- the command is legal after the history, and this is the table of the history with that command
abbrev pub StandsForMore : Settings → List Command → Command → Snapshot → Type 0
StandsForMore s history c table = (refusal_of s history c ≡ None) × (table ≡ table_of s (history ++ c ∷ []))
