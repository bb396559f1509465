-- What becomes of an issuer by the command of a call.
use Rattle.std.specs.Prelude.{◌≡◌, ℕ, ◌+◌, ◌<◌, ◌^◌, ◌++◌, false, List, length, Option, Some, None, IfSome, option_map}
use Rattle.retry_rules.specs.declared.settings.Settings.{Settings}
use Rattle.invoke_records.specs.declared.command.Command.{Command}
use Rattle.invoke_records.specs.declared.snapshot.Snapshot.{Snapshot}
use Rattle.async_core.specs.declared.illegal.Illegal.{Illegal}
use Rattle.async_core.specs.Rules.{table_after}
use Rattle.broker_core.specs.Issuer.{IssuerView, issued_in, IsLegalNow, Fails}
use Rattle.broker_core.specs.declared.error.IssueError.{IssueError}
use Rattle.broker_core.specs.declared.error.IssueError.TheVariants as issue_error
use Rattle.hall_plans.specs.declared.error.HallError.{HallError}
use Rattle.hall_plans.specs.declared.error.HallError.TheVariants as error
use Rattle.hall_plans.specs.declared.issued.Issued.{Issued}
use Rattle.hall_plans.specs.Run.{option_list}

-- what is told of a command: it is the next one
abbrev pub told_of : ℕ → Command → Issued
told_of before c = record { number = before + 1; kind = c.kind; id = c.id; time = c.time }

-- the command of a call is told, if it has one
abbrev pub IsAnswered : IssuerView → Option Command → Option Issued → Type 0
IsAnswered issuer command told = told ≡ option_map (told_of (issued_in issuer)) command

-- the table after a command, if there is one
abbrev pub table_by : Settings → Snapshot → Option Command → Snapshot
table_by s table None = table
table_by s table (Some c) = table_after s table c

-- the command is legal, if there is one: the table is that after it, it is pending, it stands for each history with it,
-- and nothing else has changed
pub record Continues (old new : IssuerView) (command : Option Command) : Type 0 where
  pub legal : IfSome command (λ c. IsLegalNow old c)
  pub settings : new.settings ≡ old.settings
  pub table : new.table ≡ table_by old.settings old.table command
  pub issued : issued_in new ≡ issued_in old + length (option_list command)
  pub pending : new.pending ≡ old.pending ++ option_list command
  pub durable : new.durable ≡ old.durable
  pub broken : new.broken ≡ old.broken
  pub stands : (history : List Command) → old.stands history → new.stands (history ++ option_list command)

-- the issuer takes a command, if there is one
abbrev pub HasPlaceFor : IssuerView → Option Command → Type 0
HasPlaceFor issuer None = Unit {0}
HasPlaceFor issuer (Some c) = (issuer.broken ≡ false) × (issued_in issuer < 2 ^ 62) × (length issuer.pending < 256)

-- memory is wanting, or the command is not legal
abbrev pub IsWanting : IssuerView → Option Command → HallError → Type 0
IsWanting issuer command error.OutOfMemory = Unit {0}
IsWanting issuer (Some c) error.NoHistory = (why : Illegal) × Fails issuer c why
IsWanting issuer command other = ⊥

-- why a command is not issued, where there is a place for it
abbrev pub IsUnissued : IssuerView → Option Command → HallError → Type 0
IsUnissued issuer command why = HasPlaceFor issuer command → IsWanting issuer command why

-- why the hall refuses, by why the issuer does. After a history, a command that a call has is legal
abbrev pub error_of : IssueError → HallError
error_of issue_error.Broken = error.Broken
error_of issue_error.WornOut = error.WornOut
error_of issue_error.Backlog = error.Backlog
error_of (issue_error.Illegal why) = error.NoHistory
error_of issue_error.OutOfMemory = error.OutOfMemory
