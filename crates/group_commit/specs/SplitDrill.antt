-- What the answers of a script of two halves say of one list of commands and of three numbers.
use Rattle.std.specs.Prelude.{◌≡◌, ◌⊎◌, ℕ, ◌+◌, ◌^◌, ◌<◌, ◌≤◌, nat_lt, Bool, true, false, List, [], ◌∷◌, ◌++◌, length, take, slice_get, IfSome, IsSome, Option, None, Some, Result, Ok, Err}
use Rattle.retry_rules.specs.declared.settings.Settings.{Settings}
use Rattle.invoke_records.specs.declared.command.Command.{Command}
use Rattle.async_core.specs.History.{refusal_of}
use Rattle.checkpoint.specs.Image.{HasGeneration}
use Rattle.checkpoint.specs.declared.error.OpenError.{OpenError}
use Rattle.checkpoint.specs.declared.error.OpenError.TheVariants as open_error
use Rattle.broker_core.specs.declared.error.LendError.{LendError}
use Rattle.broker_core.specs.declared.error.LendError.TheVariants as lend_error
use Rattle.broker_core.specs.declared.error.WriteError.{WriteError}
use Rattle.broker_core.specs.declared.error.WriteError.TheVariants as write_error
use Rattle.broker_core.specs.declared.error.SettleError.TheVariants as settle_error
use Rattle.broker_core.specs.declared.issue_half.IssueHalf.{IssueHalf}
use Rattle.group_commit.specs.declared.script.DrillFailure.{DrillFailure}
use Rattle.group_commit.specs.declared.script.DrillFailure.TheVariants as drill_failure
use Rattle.group_commit.specs.declared.split_script.SplitStep.{SplitStep}
use Rattle.group_commit.specs.declared.split_script.SplitStep.TheVariants as step
use Rattle.group_commit.specs.declared.split_script.SplitAnswer.{SplitAnswer}
use Rattle.group_commit.specs.declared.split_script.SplitAnswer.TheVariants as answer
use Rattle.group_commit.specs.declared.split_script.SplitDrill.{SplitDrill}
use Rattle.broker_core.specs.Batch.{is_lasting}
use Rattle.broker_core.specs.IssuerHalf.{half_view}
use Rattle.broker_core.specs.Refusals.{IsCutOff}
use Rattle.group_commit.specs.Drill.{Log, IsRefused}

-- a list of commands, how many are durable, up to which they are durable in the disk half, and up to which they were lent; the
-- generation of the live segment; whether the issue half is broken, whether a batch is held that was not written, and the result that
-- is held and not settled, if one is: up to which was written, or why not; up to which the disk half has staged what it has not
-- opened, if it has staged something, and whether commands are out that advances lent
pub record SplitLog : Type 0 where
  pub history : List Command
  pub durable : ℕ
  pub written : ℕ
  pub lent : ℕ
  pub generation : ℕ
  pub broken : Bool
  pub has_batch : Bool
  pub unsettled : Option (Result ℕ WriteError)
  pub staged : Option ℕ
  pub out : Bool

-- this list, recovered in this generation
abbrev pub recovered : List Command → ℕ → SplitLog
recovered history generation =
    record {
      history = history;
      durable = length history;
      written = length history;
      lent = length history;
      generation = generation;
      broken = false;
      has_batch = false;
      unsettled = None;
      staged = None;
      out = false;
    }

-- what of it the issue half has, as a broker has it
abbrev pub issue_log : SplitLog → Log
issue_log log = record { history = log.history; durable = log.durable; generation = log.generation; broken = log.broken }

-- the half over the disk is broken: by the result that is not settled, or else where the issue half is
abbrev pub is_disk_broken : Bool → Option (Result ℕ WriteError) → Bool
is_disk_broken broken (Some (Err why)) = is_lasting why
is_disk_broken broken other = broken

-- a batch is held, or its result is
abbrev pub IsHolding : SplitLog → Type 0
IsHolding log = (log.has_batch ≡ true) ⊎ IsSome log.unsettled

-- a batch is out, from its lend to its settlement: it is held, or its result is, or advances lent it
abbrev pub HasLent : SplitLog → Type 0
HasLent log = IsHolding log ⊎ (log.out ≡ true)

-- no batch is out, and the issue half is not broken
pub record MayLend (log : SplitLog) : Type 0 where
  pub whole : log.broken ≡ false
  pub no_batch : log.has_batch ≡ false
  pub no_result : log.unsettled ≡ None
  pub none_out : log.out ≡ false

-- nothing is held, and the issue half is not broken
pub record MayAdvance (log : SplitLog) : Type 0 where
  pub whole : log.broken ≡ false
  pub no_batch : log.has_batch ≡ false
  pub no_result : log.unsettled ≡ None

-- why nothing is lent: the device has failed, a batch is out, or memory is wanting for what is pending
abbrev pub IsNotLent : SplitLog → LendError → Type 0
IsNotLent log lend_error.Broken = log.broken ≡ true
IsNotLent log lend_error.Lent = (log.broken ≡ false) × HasLent log
IsNotLent log lend_error.OutOfMemory = MayLend log × (log.durable < length log.history)

-- why an advance lends nothing: the device has failed, or memory is wanting for what is pending
abbrev pub IsNotLentMore : SplitLog → LendError → Type 0
IsNotLentMore log lend_error.Broken = (log.broken ≡ true) × (log.has_batch ≡ false) × (log.unsettled ≡ None)
IsNotLentMore log lend_error.Lent = ⊥
IsNotLentMore log lend_error.OutOfMemory = MayAdvance log × (log.durable < length log.history)

-- what is staged, if something is, goes further than the first number, and no further than the second
abbrev pub IsStagedBehind : ℕ → ℕ → Option ℕ → Type 0
IsStagedBehind written lent None = Unit {0}
IsStagedBehind written lent (Some staged) = (written < staged) × (staged ≤ lent)

-- an advance comes to this number n: to where what was staged goes, and other commands may be staged behind it then. Where nothing
-- was, it stays at the durable number, and all is staged then, or it comes to the list's end, and nothing is
abbrev pub HasAdvanced : Option ℕ → Option ℕ → ℕ → ℕ → ℕ → Type 0
HasAdvanced (Some was) is durable end n = (n ≡ was) × IsStagedBehind n end is
HasAdvanced None (Some is) durable end n = (n ≡ durable) × (is ≡ end)
HasAdvanced None None durable end n = n ≡ end

-- why a batch is not written: the device fails, memory is wanting, or the generation has reached 2^62. No other cause comes: a fault
-- is settled before the next lend, each batch goes on from what the disk half has, and the table is that of a list
abbrev pub IsWriteFailure : SplitLog → WriteError → Type 0
IsWriteFailure log write_error.Fault = Unit {0}
IsWriteFailure log write_error.OutOfMemory = Unit {0}
IsWriteFailure log write_error.WornOut = 2 ^ 62 ≤ log.generation
IsWriteFailure log why = ⊥

-- the step that answers so leads from one to the other
abbrev pub IsSplitStep : Settings → SplitLog → SplitStep → SplitAnswer → SplitLog → Type 0
-- a legal command is the list's next
IsSplitStep s log (step.Issue c) (answer.Number n) next =
    (log.broken ≡ false) × (refusal_of s log.history c ≡ None) × (n ≡ length log.history + 1)
    × (next ≡ record log { history = log.history ++ c ∷ [] })
IsSplitStep s log (step.Issue c) (answer.IssueRefused why) next = IsRefused s (issue_log log) c why × (next ≡ log)
-- a lend goes up to the list's end
IsSplitStep s log step.Lend (answer.Number n) next =
    MayLend log × (log.durable < length log.history) × (n ≡ length log.history) × (next ≡ record log { lent = n; has_batch = true })
IsSplitStep s log step.Lend answer.Idle next = MayLend log × (length log.history ≡ log.durable) × (next ≡ log)
IsSplitStep s log step.Lend (answer.LendRefused why) next = IsNotLent log why × (next ≡ log)
-- a write goes up to what was lent, and may be by a switch to the next generation. It leaves nothing staged. The half over the disk
-- does not say what a refused one leaves staged
IsSplitStep s log step.Write (answer.Number n) next =
    (log.has_batch ≡ true) × (n ≡ log.lent) × ((next.generation ≡ log.generation) ⊎ (next.generation ≡ log.generation + 1))
    × (next ≡ record log { written = n; generation = next.generation; has_batch = false; unsettled = Some (Ok n); staged = None })
IsSplitStep s log step.Write answer.Idle next = (log.has_batch ≡ false) × (next ≡ log)
IsSplitStep s log step.Write (answer.WriteRefused why) next =
    (log.has_batch ≡ true) × IsWriteFailure log why × IsStagedBehind log.written log.lent next.staged
    × (next ≡ record log { has_batch = false; unsettled = Some (Err why); staged = next.staged })
-- and what was written is durable when it is settled; a fault that is settled breaks the issue half
IsSplitStep s log step.Settle (answer.Number n) next = (log.unsettled ≡ Some (Ok n)) × (next ≡ record log { durable = n; unsettled = None })
IsSplitStep s log step.Settle answer.Idle next = (log.unsettled ≡ None) × (next ≡ log)
IsSplitStep s log step.Settle (answer.SettleRefused (settle_error.NotWritten why)) next =
    (log.unsettled ≡ Some (Err why)) × (next ≡ record log { unsettled = None; broken = is_lasting why })
-- where nothing is held, an advance lends up to the list's end, and is settled at once. What is not durable then is out, and it may
-- be by a switch to the next generation. After one that was refused nothing more is durable, and nothing is out; a fault breaks both
-- halves; what is staged then, the half over the disk does not say
IsSplitStep s log step.Advance (answer.Number n) next =
    MayAdvance log × (log.durable < length log.history) × HasAdvanced log.staged next.staged log.durable (length log.history) n
    × ((next.generation ≡ log.generation) ⊎ (next.generation ≡ log.generation + 1))
    × (next ≡ record log {
      durable = n;
      written = n;
      lent = length log.history;
      generation = next.generation;
      staged = next.staged;
      out = nat_lt n (length log.history);
    })
IsSplitStep s log step.Advance answer.Idle next =
    (IsHolding log ⊎ (MayAdvance log × (length log.history ≡ log.durable))) × (next ≡ log)
IsSplitStep s log step.Advance (answer.LendRefused why) next = IsNotLentMore log why × (next ≡ log)
IsSplitStep s log step.Advance (answer.WriteRefused why) next =
    MayAdvance log × (log.durable < length log.history) × IsWriteFailure log why
    × IsStagedBehind log.written (length log.history) next.staged
    × (next ≡ record log { lent = length log.history; broken = is_lasting why; staged = next.staged; out = false })
-- a stop leaves what was written, and not more than was lent; no half is broken then. It leaves the generation too, unless the
-- device failed: of which one a fault leaves, the half over the disk says nothing
IsSplitStep s log (step.Stop choice) (answer.Number n) next =
    (log.written ≤ n) × (n ≤ log.lent) × (n ≤ length log.history)
    × (is_disk_broken log.broken log.unsettled ≡ false → next.generation ≡ log.generation)
    × (next ≡ recovered (take n log.history) next.generation)
IsSplitStep s log step answer next = ⊥

-- one step after another
abbrev pub IsSplitRun : Settings → SplitLog → List SplitStep → List SplitAnswer → SplitLog → Type 0
IsSplitRun s log [] [] end = end ≡ log
IsSplitRun s log (step ∷ steps) (answer ∷ answers) end =
    (next : SplitLog) × IsSplitStep s log step answer next × IsSplitRun s next steps answers end
IsSplitRun s log steps answers end = ⊥

-- a script was run on a disk with this content, of which each image was a legal stop: its answers are those of one list, which
-- begins with what the opening recovered, and the issue half stands for what that list came to
pub record IsSplitDrilled (content : List ℕ) (s : Settings) (history : List Command) (durable : ℕ)
    (steps : List SplitStep) (answers : List SplitAnswer) (issue : IssueHalf) : Type 0 where
  pub opened : ℕ
  pub least : durable ≤ opened
  pub most : opened ≤ length history
  pub generation : ℕ
  pub generation_is : HasGeneration generation content
  pub end : SplitLog
  pub run : IsSplitRun s (recovered (take opened history) generation) steps answers end
  pub settings : (half_view issue).settings ≡ s
  pub durable_is : (half_view issue).durable ≡ end.durable
  pub broken_is : (half_view issue).broken ≡ end.broken
  pub stands : (half_view issue).stands end.history

-- the script was run so, and this is what came of it
abbrev pub IsSplitDrillOf : List ℕ → Settings → List Command → ℕ → List SplitStep → SplitDrill → Type 0
IsSplitDrillOf content s history durable steps drill = IsSplitDrilled content s history durable steps drill.answers.items drill.issue

-- after the step the disk is opened again
abbrev pub IsStop : SplitStep → Type 0
IsStop (step.Stop choice) = Unit {0}
IsStop other = ⊥

-- the step can be cut off so: it opens the disk again, or memory ran out
abbrev pub MayBeCutOff : SplitStep → OpenError → Type 0
MayBeCutOff step cause = IsStop step ⊎ (cause ≡ open_error.OutOfMemory)

-- a script was cut off at the step behind so many: those have a run, and it can be cut off so
pub record IsSplitCutOffAt (content : List ℕ) (s : Settings) (history : List Command) (durable : ℕ)
    (steps : List SplitStep) (index : ℕ) (cause : OpenError) : Type 0 where
  pub opened : ℕ
  pub least : durable ≤ opened
  pub most : opened ≤ length history
  pub generation : ℕ
  pub generation_is : HasGeneration generation content
  pub answers : List SplitAnswer
  pub end : SplitLog
  pub run : IsSplitRun s (recovered (take opened history) generation) (take index steps) answers end
  pub needs : IfSome (slice_get steps index) (λ step. MayBeCutOff step cause)

-- a script was cut off: the device or memory refused its first opening, or it came to a step
abbrev pub IsSplitDrillFailure : List ℕ → Settings → List Command → ℕ → List SplitStep → DrillFailure → Type 0
IsSplitDrillFailure content s history durable steps (drill_failure.AtOpening cause) = IsCutOff cause
IsSplitDrillFailure content s history durable steps (drill_failure.AtStep index cause) =
    IsSplitCutOffAt content s history durable steps index cause
