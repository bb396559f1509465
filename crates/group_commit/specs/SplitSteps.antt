-- The two halves of a script between its steps. Names only steps of private functions: a reader of the public contracts need
-- not believe it.
use Rattle.std.specs.Prelude.{◌≡◌, ℕ, ◌+◌, ◌≤◌, Bool, true, false, List, length, take, drop, Option, None, Some, IfOk, IfErr, Result, Ok, Err}
use Rattle.sector_disk.specs.Memory.{memory_view}
use Rattle.retry_rules.specs.declared.settings.Settings.{Settings}
use Rattle.invoke_records.specs.declared.command.Command.{Command}
use Rattle.gate_journal.specs.declared.staged.Staged.{Staged}
use Rattle.gate_journal.specs.Staged.{count_of}
use Rattle.checkpoint.specs.Image.{HasGeneration}
use Rattle.checkpoint.specs.Live.{generation_of}
use Rattle.group_commit.specs.declared.split_script.SplitStep.{SplitStep}
use Rattle.group_commit.specs.declared.split_script.SplitAnswer.{SplitAnswer}
use Rattle.group_commit.specs.declared.split_script.SplitAnswer.TheVariants as answer
use Rattle.broker_core.specs.declared.batch.Written.{Written}
use Rattle.broker_core.specs.declared.batch.Failed.{Failed}
use Rattle.broker_core.specs.declared.error.WriteError.{WriteError}
use Rattle.group_commit.specs.declared.split_drilling.Halves.{Halves}
use Rattle.group_commit.specs.declared.split_drilling.Held.{Held}
use Rattle.group_commit.specs.declared.split_drilling.Held.TheVariants as held
use Rattle.broker_core.specs.Broker.{settings_of, issued_of, durable_of, is_broken, opened_of, staged_of, Stands}
use Rattle.broker_core.specs.IssuerHalf.{half_view, lent_of}
use Rattle.broker_core.specs.Batch.{first_of, last_of, commands_of, last_written, cause_of, first_in, last_in}
use Rattle.broker_core.specs.Splitting.{broker_of}
use Rattle.group_commit.specs.SplitDrill.{SplitLog, IsSplitStep, IsSplitRun, IsStop, recovered, is_disk_broken}

-- what a result is told as
abbrev pub told : Result Written Failed → Result ℕ WriteError
told (Ok written) = Ok (last_written written)
told (Err failed) = Err (cause_of failed)

-- up to which is out while nothing is held: all that was lent, by advances, or nothing
abbrev pub out_alone : Bool → ℕ → Option ℕ
out_alone true lent = Some lent
out_alone false lent = None

-- a batch that is held has what was lent, a result that is held is that of what was lent, and else a batch is out only by advances.
-- What was written is durable, unless its result is held
abbrev pub IsHeld : SplitLog → Option ℕ → Held → Type 0
IsHeld log out held.Nothing =
    (log.has_batch ≡ false) × (log.unsettled ≡ None) × (out ≡ out_alone log.out log.lent) × (log.durable ≡ log.written)
IsHeld log out (held.Lent batch) =
    (log.has_batch ≡ true) × (log.unsettled ≡ None) × (out ≡ Some log.lent)
    × (first_of batch ≡ log.durable + 1) × (last_of batch ≡ log.lent) × (commands_of batch ≡ drop log.durable (take log.lent log.history))
    × (log.out ≡ false) × (log.durable ≡ log.written)
IsHeld log out (held.Done outcome) =
    (log.has_batch ≡ false) × (log.unsettled ≡ Some (told outcome)) × (out ≡ Some log.lent)
    × (first_in outcome ≡ log.durable + 1) × (last_in outcome ≡ log.lent) × IfOk outcome (λ written. last_written written ≡ log.written)
    × (log.out ≡ false) × IfErr outcome (λ failed. log.durable ≡ log.written)

-- up to which a group goes that is staged behind so many commands
abbrev pub staged_to : ℕ → Option Staged → Option ℕ
staged_to written None = None
staged_to written (Some group) = Some (written + count_of group)

-- the generation of the live segment
abbrev pub generation_in : Halves → ℕ
generation_in halves = generation_of (opened_of (broker_of halves.disk))

-- the issue half stands for the list, and the half over the disk for a front of what was lent
pub record Keeps (s : Settings) (log : SplitLog) (halves : Halves) : Type 0 where
  pub settings : (half_view halves.issue).settings ≡ s
  pub durable : (half_view halves.issue).durable ≡ log.durable
  pub broken : (half_view halves.issue).broken ≡ log.broken
  pub stands : (half_view halves.issue).stands log.history
  pub disk_settings : settings_of (broker_of halves.disk) ≡ s
  pub disk_durable : durable_of (broker_of halves.disk) ≡ log.written
  pub generation : generation_in halves ≡ log.generation
  pub disk_broken : is_broken (broker_of halves.disk) ≡ is_disk_broken log.broken log.unsettled
  pub disk_most : issued_of (broker_of halves.disk) ≤ log.lent
  pub disk_stands : Stands memory_view (broker_of halves.disk) (take (issued_of (broker_of halves.disk)) log.history)
  pub settled : log.durable ≤ log.written
  pub lent : log.lent ≤ length log.history
  pub held_is : IsHeld log (lent_of halves.issue) halves.held
  pub staged : log.staged ≡ staged_to log.written (staged_of (broker_of halves.disk))
  -- the half over the disk has all that is out by advances
  pub all_out : log.out ≡ true → issued_of (broker_of halves.disk) ≡ log.lent

-- this holds of each list and what else is said of the halves that stand for it
abbrev pub ForEachLog : Halves → (Settings → SplitLog → Type 0) → Type 0
ForEachLog halves P = (s : Settings) (log : SplitLog) → Keeps s log halves → P s log

-- the step that answers so leads on from each of them
abbrev pub Leads : Halves → SplitStep → SplitAnswer → Halves → Type 0
Leads old step answer new = ForEachLog old (λ s log. (next : SplitLog) × IsSplitStep s log step answer next × Keeps s next new)

-- this holds of each stop
abbrev pub ForEachStop : (SplitStep → Type 0) → Type 0
ForEachStop P = (step : SplitStep) → IsStop step → P step

-- the halves after an opening: they stand for a front of the history, all of which is durable
abbrev pub IsBegun : Settings → List Command → ℕ → Halves → Type 0
IsBegun s history durable halves =
    (durable ≤ (half_view halves.issue).durable) × ((half_view halves.issue).durable ≤ length history)
    × Keeps s (recovered (take (half_view halves.issue).durable history) (generation_in halves)) halves

-- they have the generation that a disk with this content has
abbrev pub HaveGenerationOf : List ℕ → Halves → Type 0
HaveGenerationOf content halves = HasGeneration (generation_in halves) content

-- the halves after a stop: they stand for a front of the list, from what was written to what was lent
abbrev pub IsStopped : Settings → SplitLog → Halves → Type 0
IsStopped s log new =
    (log.written ≤ (half_view new.issue).durable) × ((half_view new.issue).durable ≤ log.lent)
    × ((half_view new.issue).durable ≤ length log.history)
    × (is_disk_broken log.broken log.unsettled ≡ false → generation_in new ≡ log.generation)
    × Keeps s (recovered (take (half_view new.issue).durable log.history) (generation_in new)) new

-- what a step says of a write
abbrev pub write_answer : Result Written Failed → SplitAnswer
write_answer (Ok written) = answer.Number (last_written written)
write_answer (Err failed) = answer.WriteRefused (cause_of failed)

-- a script was run so far: its answers are those of one list, which begins with what the opening recovered, and the halves
-- stand for what that list came to
pub record IsSplitDrilledOn (content : List ℕ) (s : Settings) (history : List Command) (durable : ℕ)
    (steps : List SplitStep) (answers : List SplitAnswer) (halves : Halves) : Type 0 where
  pub opened : ℕ
  pub least : durable ≤ opened
  pub most : opened ≤ length history
  pub generation : ℕ
  pub generation_is : HasGeneration generation content
  pub end : SplitLog
  pub run : IsSplitRun s (recovered (take opened history) generation) steps answers end
  pub keeps : Keeps s end halves
