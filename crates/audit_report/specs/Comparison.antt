-- What the older segment tells beside the live snapshot: its snapshot and commands folded by the rules, and compared.
use Rattle.std.specs.Prelude.{◌≡◌, ℕ, ◌+◌, ◌≤◌, Bool, true, false, List, Option, None, Some}
use Rattle.invoke_records.specs.declared.command.Command.{Command}
use Rattle.invoke_records.specs.declared.snapshot.Snapshot.{Snapshot}
use Rattle.async_core.specs.State.{State}
use Rattle.async_core.specs.Rules.{replay}
use Rattle.audit_report.specs.declared.report.Older.{Older}
use Rattle.audit_report.specs.declared.report.Older.TheVariants as older

-- the table, where each command was legal
abbrev pub table_in : Bool → State → Option Snapshot
table_in true state = Some state.table
table_in false state = None

-- the live snapshot is so many commands further, as many as a switch may carry
pub record IsAhead (more : ℕ) (table live : Snapshot) : Type 0 where
  pub number : table.number + more ≡ live.number
  pub some : 1 ≤ more
  pub few : more ≤ 256

-- what is told of this table beside the live snapshot
abbrev pub ComparesTo : Snapshot → Snapshot → Older → Type 0
ComparesTo table live older.None = ⊥
ComparesTo table live older.Agrees = table ≡ live
ComparesTo table live (older.Ahead more) = IsAhead more table live
ComparesTo table live older.Differs = (table ≡ live → ⊥) × ((more : ℕ) → IsAhead more table live → ⊥)

-- the same of two tables, whose settings do not count
abbrev pub Compares : State → State → Older → Type 0
Compares table live told = ComparesTo table.table live.table told

-- what is told of a table to which a segment folds, or of a segment of which a command is not legal
abbrev pub TellsFolded : Snapshot → Option Snapshot → Older → Type 0
TellsFolded live (Some table) told = ComparesTo table live told
TellsFolded live None told = told ≡ older.Differs

-- what is told of the older segment's snapshot and commands, if there is one, beside the live snapshot
abbrev pub TellsOlder : State → Option (Snapshot × List Command) → Older → Type 0
TellsOlder live None told = told ≡ older.None
TellsOlder live (Some parts) told = TellsFolded live.table (replay live.settings parts.0 parts.1) told
