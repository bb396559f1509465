-- What the answers of a script say of one history and of how much of it is durable.
use Rattle.std.specs.Prelude.{◌≡◌, ◌⊎◌, ℕ, ◌+◌, ◌^◌, ◌<◌, ◌≤◌, Bool, true, false, List, [], ◌∷◌, ◌++◌, length, take, min, slice_get, IfSome, Option, Some, None, Result, Ok, Err, IsOk, IfErr}
use Rattle.retry_rules.specs.declared.settings.Settings.{Settings}
use Rattle.invoke_records.specs.declared.command.Command.{Command}
use Rattle.async_core.specs.History.{refusal_of}
use Rattle.broker_core.specs.Resume.{IsResumed}
use Rattle.broker_core.specs.declared.error.IssueError.{IssueError}
use Rattle.broker_core.specs.declared.error.IssueError.TheVariants as issue_error
use Rattle.broker_core.specs.declared.error.CommitError.{CommitError}
use Rattle.broker_core.specs.declared.error.CommitError.TheVariants as commit_error
use Rattle.checkpoint.specs.declared.error.OpenError.{OpenError}
use Rattle.checkpoint.specs.declared.error.OpenError.TheVariants as open_error
use Rattle.checkpoint.specs.Image.{recovered, HasGeneration}
use Rattle.broker_core.specs.Refusals.{IsCutOff, TellsNotFormatted, TellsDamage, TellsOld}
use Rattle.group_commit.specs.declared.script.DrillFailure.{DrillFailure}
use Rattle.group_commit.specs.declared.script.DrillFailure.TheVariants as drill_failure
use Rattle.group_commit.specs.declared.script.Step.{Step}
use Rattle.group_commit.specs.declared.script.Step.TheVariants as step
use Rattle.group_commit.specs.declared.script.StepAnswer.{StepAnswer}
use Rattle.group_commit.specs.declared.script.StepAnswer.TheVariants as answer

-- a history, how many of its commands are durable, the generation of the live segment, and whether the device failed since the
-- last opening
pub record Log : Type 0 where
  pub history : List Command
  pub durable : ℕ
  pub generation : ℕ
  pub broken : Bool

-- so many commands of this history, recovered in this generation
abbrev pub opening : List Command → ℕ → ℕ → Log
opening history n generation = record { history = take n history; durable = n; generation = generation; broken = false }

-- why a command is refused: the device has failed, the command is not legal after this history, or the broker has one of its
-- own three other reasons
abbrev pub IsRefused : Settings → Log → Command → IssueError → Type 0
IsRefused s log c issue_error.Broken = log.broken ≡ true
IsRefused s log c issue_error.WornOut = (log.broken ≡ false) × (2 ^ 62 ≤ length log.history)
IsRefused s log c (issue_error.Illegal why) = (log.broken ≡ false) × (refusal_of s log.history c ≡ Some why)
IsRefused s log c issue_error.Backlog =
    (log.broken ≡ false) × (refusal_of s log.history c ≡ None) × (length log.history ≡ log.durable + 256)
IsRefused s log c issue_error.OutOfMemory = (log.broken ≡ false) × (refusal_of s log.history c ≡ None)

-- what a commit or a switch that was refused leaves: a fault breaks the broker, and then it answers that until the next stop. It
-- is worn out only in generation 2^62
abbrev pub IsNotCommitted : Log → CommitError → Log → Type 0
IsNotCommitted log commit_error.Broken next = (log.broken ≡ true) × (next ≡ log)
IsNotCommitted log commit_error.Fault next = (log.broken ≡ false) × (next ≡ record log { broken = true })
IsNotCommitted log commit_error.BadKind next = ⊥
IsNotCommitted log commit_error.WornOut next = (log.broken ≡ false) × (2 ^ 62 ≤ log.generation) × (next ≡ log)
IsNotCommitted log commit_error.OutOfMemory next = (log.broken ≡ false) × (next ≡ log)

-- the generation after a commit: the same, or the next where something was pending
abbrev pub IsCommittedIn : Log → ℕ → Type 0
IsCommittedIn log generation =
    (generation ≡ log.generation) ⊎ ((generation ≡ log.generation + 1) × (log.durable < length log.history))

-- why a resumption is refused: the device has failed, or one of the broker's own three other reasons holds
abbrev pub IsNotResumed : Log → IssueError → Type 0
IsNotResumed log issue_error.Broken = log.broken ≡ true
IsNotResumed log issue_error.WornOut = (log.broken ≡ false) × (2 ^ 62 ≤ length log.history)
IsNotResumed log (issue_error.Illegal why) = ⊥
IsNotResumed log issue_error.Backlog = (log.broken ≡ false) × (length log.history ≡ log.durable + 256)
IsNotResumed log issue_error.OutOfMemory = log.broken ≡ false

-- what a step says of a resumption's answer
abbrev pub answer_to : Result (Option ℕ) IssueError → StepAnswer
answer_to (Ok None) = answer.Number 0
answer_to (Ok (Some number)) = answer.Number number
answer_to (Err why) = answer.IssueRefused why

-- the step that answers so leads from one log to the other
abbrev pub IsStep : Settings → Log → Step → StepAnswer → Log → Type 0
-- a legal command is the history's next
IsStep s log (step.Issue c) (answer.Number n) next =
    (log.broken ≡ false) × (refusal_of s log.history c ≡ None) × (n ≡ length log.history + 1)
    × (next ≡ record log { history = log.history ++ c ∷ [] })
IsStep s log (step.Issue c) (answer.IssueRefused why) next = IsRefused s log c why × (next ≡ log)
-- a commit makes the whole history durable; but for a fault before, it is refused only where something is pending
IsStep s log step.Commit (answer.Number n) next =
    (log.broken ≡ false) × (n ≡ length log.history) × IsCommittedIn log next.generation
    × (next ≡ record log { durable = n; generation = next.generation })
IsStep s log step.Commit (answer.CommitRefused why) next =
    IsNotCommitted log why next × (log.broken ≡ false → log.durable < length log.history)
-- and so does a switch, in the next generation
IsStep s log step.Switch (answer.Number n) next =
    (log.broken ≡ false) × (n ≡ length log.history) × (next ≡ record log { durable = n; generation = log.generation + 1 })
IsStep s log step.Switch (answer.CommitRefused why) next = IsNotCommitted log why next
-- a resumption marks the running event that was accepted first, if one runs
IsStep s log (step.Resume now) answer next =
    (result : Result (Option ℕ) IssueError) × (answer ≡ answer_to result)
    × IsResumed s log.history (min now 253402300799999) result next.history
    × (log.broken ≡ true → result ≡ Err issue_error.Broken) × IfErr result (IsNotResumed log)
    × (next.durable ≡ log.durable) × (next.generation ≡ log.generation) × (next.broken ≡ log.broken)
-- a stop leaves a prefix that has the durable commands. It leaves the generation too, unless the device failed: of which one a fault
-- leaves, the broker says nothing
IsStep s log (step.Stop choice) (answer.Number n) next =
    (log.durable ≤ n) × (n ≤ length log.history) × (log.broken ≡ false → next.generation ≡ log.generation)
    × (next ≡ opening log.history n next.generation)
IsStep s log step answer next = ⊥

-- one step after another
abbrev pub IsRun : Settings → Log → List Step → List StepAnswer → Log → Type 0
IsRun s log [] [] end = end ≡ log
IsRun s log (step ∷ steps) (answer ∷ answers) end = (next : Log) × IsStep s log step answer next × IsRun s next steps answers end
IsRun s log steps answers end = ⊥

-- ## A script that was cut off

-- why
abbrev pub cause_in : DrillFailure → OpenError
cause_in (drill_failure.AtOpening cause) = cause
cause_in (drill_failure.AtStep step cause) = cause

-- at its first opening, or at one of so many steps
abbrev pub IsAtOneOf : ℕ → DrillFailure → Type 0
IsAtOneOf count (drill_failure.AtOpening cause) = Unit {0}
IsAtOneOf count (drill_failure.AtStep step cause) = step < count

-- a disk with this content can be opened
abbrev pub Recovers : List ℕ → Type 0
Recovers content = IsOk (recovered content)

-- the first opening tells a disk with this content that it is not formatted, damaged at a sector, or old, only where it is so; and a
-- step is begun only where it can be opened
abbrev pub TellsOpening : List ℕ → DrillFailure → Type 0
TellsOpening content (drill_failure.AtOpening cause) =
    TellsNotFormatted content cause × TellsDamage content cause × TellsOld content cause
TellsOpening content (drill_failure.AtStep step cause) = Recovers content

-- after the step the disk is opened again
abbrev pub IsStop : Step → Type 0
IsStop (step.Stop choice) = Unit {0}
IsStop other = ⊥

-- the step can be cut off so: it opens the disk again, or memory ran out
abbrev pub MayBeCutOff : Step → OpenError → Type 0
MayBeCutOff step cause = IsStop step ⊎ (cause ≡ open_error.OutOfMemory)

-- a script was cut off at the step behind so many: those have a run, and it can be cut off so
pub record IsCutOffAt (content : List ℕ) (s : Settings) (history : List Command) (durable : ℕ)
    (steps : List Step) (index : ℕ) (cause : OpenError) : Type 0 where
  pub opened : ℕ
  pub least : durable ≤ opened
  pub most : opened ≤ length history
  pub generation : ℕ
  pub generation_is : HasGeneration generation content
  pub answers : List StepAnswer
  pub end : Log
  pub run : IsRun s (opening history opened generation) (take index steps) answers end
  pub needs : IfSome (slice_get steps index) (λ step. MayBeCutOff step cause)

-- a script was cut off: the device or memory refused its first opening, or it came to a step
abbrev pub IsDrillFailure : List ℕ → Settings → List Command → ℕ → List Step → DrillFailure → Type 0
IsDrillFailure content s history durable steps (drill_failure.AtOpening cause) = IsCutOff cause
IsDrillFailure content s history durable steps (drill_failure.AtStep index cause) = IsCutOffAt content s history durable steps index cause
