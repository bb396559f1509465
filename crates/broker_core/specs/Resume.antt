-- What marks an attempt that a stop cut off.
use Rattle.std.specs.Prelude.{◌≡◌, ℕ, ◌+◌, ◌^◌, ◌≤◌, true, List, [], ◌∷◌, ◌++◌, length, max, All, Option, Some, None, Result, Ok, Err, IfOk}
use Rattle.retry_rules.specs.declared.settings.Settings.{Settings}
use Rattle.invoke_records.specs.declared.command.Command.{Command}
use Rattle.invoke_records.specs.declared.command.Kind.TheVariants.{Interrupt}
use Rattle.invoke_records.specs.declared.row.Standing.{Standing}
use Rattle.invoke_records.specs.declared.row.Standing.TheVariants as standing
use Rattle.async_core.specs.History.{refusal_of, last_moment, held, standing_in}
use Rattle.async_core.specs.Choice.{IsFirstRunning}
use Rattle.sector_disk.specs.Disk.{DiskView}
use Rattle.sector_disk.specs.declared.disk.Disk.{Ghosts}
use Rattle.broker_core.specs.declared.broker.Broker.{Broker}
use Rattle.broker_core.specs.declared.error.IssueError.{IssueError}
use Rattle.broker_core.specs.declared.error.IssueError.TheVariants as issue_error
use Rattle.broker_core.specs.Broker.{settings_of, issued_of, pending_of, is_broken, Stands}

-- the command that says that an event's attempt was cut off
abbrev pub interrupt_at : List ℕ → ℕ → Command
interrupt_at id time = record { kind = Interrupt; id = id; environment = 0; time = time; bytes = [] }

-- that of an event, at this moment or the history's last one, whichever is later
abbrev pub interrupt_of : List Command → ℕ → ℕ × List ℕ → Command
interrupt_of history now event = interrupt_at event.1 (max now (last_moment history))

-- a refusal of the broker's own
abbrev pub IsOwn : IssueError → Type 0
IsOwn (issue_error.Illegal why) = ⊥
IsOwn why = Unit {0}

-- what a resumption answers after this history, and the history behind it: nothing where nothing runs, else the number of
-- the Interrupt for the running event that was accepted first
abbrev pub IsResumed : Settings → List Command → ℕ → Result (Option ℕ) IssueError → List Command → Type 0
IsResumed s history now (Ok None) next = IsFirstRunning s history 0 None × (next ≡ history)
IsResumed s history now (Ok (Some number)) next =
    (event : ℕ × List ℕ) × IsFirstRunning s history 0 (Some event) × (refusal_of s history (interrupt_of history now event) ≡ None)
    × (number ≡ length history + 1) × (next ≡ history ++ interrupt_of history now event ∷ [])
IsResumed s history now (Err why) next = IsOwn why × (next ≡ history)

-- what the broker stands for after a resumption that answered so
abbrev pub Resumes :
    {D : Type 0} {g : Ghosts D} → (D → DiskView) → Broker D g → List Command → ℕ → Result (Option ℕ) IssueError
    → Broker D g → Type 0
Resumes view old history now result new =
    (next : List Command) × IsResumed (settings_of old) history now result next × Stands view new next

-- where an event that is held stands once nothing runs: it waits, is due again, or has ended
abbrev pub IsAtRest : Standing → Type 0
IsAtRest standing.Unknown = ⊥
IsAtRest (standing.Running environment deadline) = ⊥
IsAtRest other = Unit {0}

-- each event that was accepted and is not collected is at rest
abbrev pub AllAtRest : Settings → List Command → Type 0
AllAtRest s history = All (λ event. IsAtRest (standing_in s history event.1)) (held history)

-- nothing was left to mark only where each event is at rest
abbrev pub TellsRest : Settings → List Command → Result (Option ℕ) IssueError → Type 0
TellsRest s history result = IfOk result (λ ticket. ticket ≡ None → AllAtRest s history)

-- why a resumption was refused, by the broker alone
abbrev pub IsOwnReason : {D : Type 0} {g : Ghosts D} → Broker D g → IssueError → Type 0
IsOwnReason broker issue_error.Broken = is_broken broker ≡ true
IsOwnReason broker issue_error.WornOut = 2 ^ 62 ≤ issued_of broker
IsOwnReason broker issue_error.Backlog = length (pending_of broker) ≡ 256
IsOwnReason broker why = Unit {0}
