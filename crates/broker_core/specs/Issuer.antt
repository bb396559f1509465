-- An issuer of commands as contracts see it, and the histories that it stands for.
use Rattle.std.specs.Prelude.{◌≡◌, ◌↔◌, ℕ, ◌+◌, ◌<◌, ◌≤◌, ◌^◌, Bool, true, false, [], ◌∷◌, ◌++◌, List, length, drop, None, Some}
use Rattle.retry_rules.specs.declared.settings.Settings.{Settings}
use Rattle.invoke_records.specs.declared.snapshot.Snapshot.{Snapshot}
use Rattle.invoke_records.specs.declared.command.Command.{Command}
use Rattle.async_core.specs.declared.illegal.Illegal.{Illegal}
use Rattle.async_core.specs.State.{State}
use Rattle.async_core.specs.Rules.{refusal_at, table_after}
use Rattle.async_core.specs.History.{IsLegal, table_of, refusal_of}
use Rattle.broker_core.specs.declared.error.IssueError.{IssueError}
use Rattle.broker_core.specs.declared.error.IssueError.TheVariants as issue_error
use Rattle.broker_core.specs.History.{AreGood}

-- an issuer at a moment
pub record IssuerView : Type 1 where
  -- the settings that its events are judged by
  pub settings : Settings
  -- the table after all that was issued
  pub table : Snapshot
  -- the commands that are issued and not durable
  pub pending : List Command
  -- how many commands are durable
  pub durable : ℕ
  -- it failed, and issues nothing more
  pub broken : Bool
  -- the histories that it stands for: lists of all commands that were ever issued
  pub stands : List Command → Type 0

-- how many commands were issued
abbrev pub issued_in : IssuerView → ℕ
issued_in issuer = issuer.table.number

-- the table, with its settings
abbrev pub state_in : IssuerView → State
state_in issuer = record { settings = issuer.settings; table = issuer.table }

-- ## The histories that it stands for

-- the history is legal, the table is that of the history, and what is pending is its end behind the durable commands
pub record IsHistoryOf (issuer : IssuerView) (history : List Command) : Type 0 where
  pub legal : IsLegal issuer.settings history
  pub table_is : issuer.table ≡ table_of issuer.settings history
  pub issued_is : issued_in issuer ≡ length history
  pub durable_is : issuer.durable ≤ length history
  pub pending_is : issuer.pending ≡ drop issuer.durable history

-- what holds of an issuer at each moment
pub record IsIssuer (issuer : IssuerView) : Type 0 where
  pub good : AreGood issuer.settings
  pub counted : issuer.durable + length issuer.pending ≡ issued_in issuer
  pub most_issued : issued_in issuer ≤ 2 ^ 62
  pub most_pending : length issuer.pending ≤ 256
  pub each : (history : List Command) → issuer.stands history → IsHistoryOf issuer history

-- this holds between a moment and itself, and between two with one in between
pub record GoesOn {S : Type 0} (same : S → S → Type 0) : Type 0 where
  pub at_first : (a : S) → same a a
  pub on : (a b c : S) → same a b → same b c → same a c

-- this holds of each history that the issuer stands for
abbrev pub ForEachHistory : IssuerView → (List Command → Type 0) → Type 0
ForEachHistory issuer P = (history : List Command) → issuer.stands history → P history

-- ## When a command is refused

-- this holds of an issuer that is neither broken nor worn out
abbrev pub OnUsable : IssuerView → Type 0 → Type 0
OnUsable issuer P = issuer.broken ≡ false → issued_in issuer < 2 ^ 62 → P

-- the command is legal now
abbrev pub IsLegalNow : IssuerView → Command → Type 0
IsLegalNow issuer command = refusal_at issuer.settings issuer.table command ≡ None

-- the command is not legal now, since it fails this check first
abbrev pub Fails : IssuerView → Command → Illegal → Type 0
Fails issuer command why = refusal_at issuer.settings issuer.table command ≡ Some why

-- 256 commands are pending
abbrev pub IsFull : IssuerView → Type 0
IsFull issuer = length issuer.pending ≡ 256

-- fewer than 256 commands are pending
abbrev pub HasPlace : IssuerView → Type 0
HasPlace issuer = length issuer.pending < 256

-- why a command was refused
abbrev pub IsReason : IssuerView → Command → IssueError → Type 0
IsReason issuer command issue_error.Broken = issuer.broken ≡ true
IsReason issuer command issue_error.WornOut = 2 ^ 62 ≤ issued_in issuer
IsReason issuer command (issue_error.Illegal why) = Fails issuer command why
IsReason issuer command issue_error.Backlog = IsLegalNow issuer command × IsFull issuer
IsReason issuer command issue_error.OutOfMemory = IsLegalNow issuer command

-- ## What a command does

-- two moments of an issuer between which nothing was issued or became durable
pub record IsSameIssuer (old new : IssuerView) : Type 0 where
  pub settings : new.settings ≡ old.settings
  pub table : new.table ≡ old.table
  pub pending : new.pending ≡ old.pending
  pub durable : new.durable ≡ old.durable
  pub broken : new.broken ≡ old.broken
  pub stands : (history : List Command) → new.stands history ↔ old.stands history

-- this command was applied, is pending and has this number, and nothing else changed
pub record Issues (old new : IssuerView) (command : Command) (ticket : ℕ) : Type 0 where
  pub legal : IsLegalNow old command
  pub settings : new.settings ≡ old.settings
  pub table : new.table ≡ table_after old.settings old.table command
  pub issued : issued_in new ≡ issued_in old + 1
  pub pending : new.pending ≡ old.pending ++ command ∷ []
  pub durable : new.durable ≡ old.durable
  pub broken : new.broken ≡ old.broken
  pub number : ticket ≡ issued_in old + 1

-- the command is legal after the history and has the next number, and the issuer then stands for the history with it
abbrev pub Accepts : IssuerView → List Command → Command → IssuerView → ℕ → Type 0
Accepts old history command new ticket =
    (refusal_of old.settings history command ≡ None) × (ticket ≡ length history + 1) × new.stands (history ++ command ∷ [])
