-- What the laws of records speak of: what a table says of an event that has ended, and the record of that.
use Rattle.std.specs.Prelude.{◌≡◌, ◌≤◌, ℕ, List, Option, option_map, IfSome}
use Rattle.retry_rules.specs.declared.settings.Settings.{Settings}
use Rattle.invoke_records.specs.Spelling.{greatest_moment}
use Rattle.async_core.specs.State.{State}
use Rattle.async_core.specs.Rules.{row_at}
use Rattle.async_core.specs.Readers.{ending_at, told}
use Rattle.async_core.specs.Histories.{ForEachLegalHistory, ForEachGoodHistory}
use Rattle.async_core.specs.declared.readers.Ended.{Ended}
use Rattle.destination_json.specs.Record.{record_text, record_in}

-- what `Table::ended` answers
abbrev pub IsEnded : State → List ℕ → Option Ended → Type 0
IsEnded t id ended = option_map told ended ≡ ending_at (row_at t.table id)

-- its record, if there is one
abbrev pub record_of : Settings → Option Ended → Option (List ℕ)
record_of s ended = option_map (λ (e : Ended). record_text s (told e)) ended

-- the record is the one after each legal history that the table stands for
abbrev pub HasRecordOfHistory : State → List ℕ → Option Ended → Type 0
HasRecordOfHistory t id ended = ForEachLegalHistory t (λ s history. record_of s ended ≡ record_in s history id)

-- where the table stands for a legal history under good settings, the event ended at a moment
abbrev pub EndedInTime : State → Option Ended → Type 0
EndedInTime t ended = ForEachGoodHistory t (λ s history. IfSome ended (λ e. e.at ≤ greatest_moment))
