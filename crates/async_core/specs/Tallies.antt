-- What is counted of the rows: how many run, and how many have ended on each side.
use Rattle.std.specs.Prelude.{◌≡◌, ℕ, ◌+◌, ◌<◌, ◌≤◌, ◌^◌, List, count_by, if◌then◌else◌}
use Rattle.retry_rules.specs.declared.settings.Settings.{Settings}
use Rattle.invoke_records.specs.declared.command.Command.{Command}
use Rattle.invoke_records.specs.declared.row.EventRow.{EventRow}
use Rattle.invoke_records.specs.declared.row.Standing.{Standing}
use Rattle.async_core.specs.declared.choice.Side.{Side}
use Rattle.async_core.specs.declared.choice.Side.TheVariants as side
use Rattle.async_core.specs.declared.tally.Tally.{Tally}
use Rattle.async_core.specs.Standings.{is_running}
use Rattle.async_core.specs.History.{held, standing_in}
use Rattle.async_core.specs.Choice.{ended_on}
use Rattle.async_core.specs.Rules.{running_at}

-- how many of these rows have ended on this side
abbrev pub ended_at : Side → List EventRow → ℕ
ended_at side rows = count_by (λ (r : EventRow). ended_on side r.standing) rows

-- how many of the events that are held have ended on this side
abbrev pub ended_count : Settings → List Command → Side → ℕ
ended_count s history side = count_by (λ (event : ℕ × List ℕ). ended_on side (standing_in s history event.1)) (held history)

-- the tally of these rows
pub record IsTallied (rows : List EventRow) (tally : Tally) : Type 0 where
  pub running : tally.running ≡ running_at rows
  pub successes : tally.successes ≡ ended_at side.Success rows
  pub failures : tally.failures ≡ ended_at side.Failure rows

-- ## One event more or less, by where it stands

abbrev pub runs : Standing → ℕ
runs at = if is_running at then 1 else 0

abbrev pub ends : Side → Standing → ℕ
ends side at = if ended_on side at then 1 else 0

-- an event that stands there may be one of these
pub record HasOne (tally : Tally) (at : Standing) : Type 0 where
  pub running : runs at ≤ tally.running
  pub successes : ends side.Success at ≤ tally.successes
  pub failures : ends side.Failure at ≤ tally.failures

pub record IsFew (tally : Tally) : Type 0 where
  pub running : tally.running < 2 ^ 63
  pub successes : tally.successes < 2 ^ 63
  pub failures : tally.failures < 2 ^ 63

-- of these one stood there, and stands elsewhere now
pub record Retallies (tally : Tally) (old new : Standing) (changed : Tally) : Type 0 where
  pub running : changed.running + runs old ≡ tally.running + runs new
  pub successes : changed.successes + ends side.Success old ≡ tally.successes + ends side.Success new
  pub failures : changed.failures + ends side.Failure old ≡ tally.failures + ends side.Failure new
