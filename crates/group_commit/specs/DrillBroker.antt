-- A step of a script, by the brokers before and after it.
use Rattle.std.specs.Prelude.{◌≡◌, ℕ, ◌≤◌, false, List, length, take}
use Rattle.sector_disk.specs.declared.disk.Disk.{Ghosts}
use Rattle.sector_disk.specs.declared.memory.MemDisk.{MemDisk}
use Rattle.sector_disk.specs.Memory.{memory_view}
use Rattle.retry_rules.specs.declared.settings.Settings.{Settings}
use Rattle.invoke_records.specs.declared.command.Command.{Command}
use Rattle.broker_core.specs.declared.broker.Broker.{Broker}
use Rattle.group_commit.specs.declared.script.Step.{Step}
use Rattle.group_commit.specs.declared.script.StepAnswer.{StepAnswer}
use Rattle.group_commit.specs.declared.script.Drill.{Drill}
use Rattle.checkpoint.specs.Image.{HasGeneration}
use Rattle.checkpoint.specs.Live.{generation_of}
use Rattle.broker_core.specs.Broker.{settings_of, durable_of, is_broken, opened_of, Stands}
use Rattle.broker_core.specs.Promises.{ForEachHistory}
use Rattle.group_commit.specs.Drill.{Log, opening, IsStep, IsRun, IsStop}

-- the log of a broker that stands for this history
abbrev pub log_of : {g : Ghosts MemDisk} → Broker MemDisk g → List Command → Log
log_of broker history =
    record { history = history; durable = durable_of broker; generation = generation_of (opened_of broker); broken = is_broken broker }

-- the step that answers so leads from a broker that stands for the history to one that stands for the next log
pub record LeadsOn {g : Ghosts MemDisk} (old : Broker MemDisk g) (history : List Command)
    (step : Step) (answer : StepAnswer) (new : Broker MemDisk g) : Type 0 where
  pub next : Log
  pub step_is : IsStep (settings_of old) (log_of old history) step answer next
  pub settings : settings_of new ≡ settings_of old
  pub durable : durable_of new ≡ next.durable
  pub generation : generation_of (opened_of new) ≡ next.generation
  pub broken : is_broken new ≡ next.broken
  pub stands : Stands memory_view new next.history

-- the step leads so on from each history that the broker stands for
abbrev pub Leads : {g : Ghosts MemDisk} → Broker MemDisk g → Step → StepAnswer → Broker MemDisk g → Type 0
Leads old step answer new = ForEachHistory memory_view old (λ history. LeadsOn old history step answer new)

-- this holds of each stop
abbrev pub ForEachStop : (Step → Type 0) → Type 0
ForEachStop P = (step : Step) → IsStop step → P step

-- a broker after an opening: it is not broken, and stands for a prefix of the history, which is all durable
abbrev pub IsStarted : {g : Ghosts MemDisk} → Settings → List Command → ℕ → Broker MemDisk g → Type 0
IsStarted s history durable broker =
    (durable ≤ durable_of broker) × (durable_of broker ≤ length history) × (settings_of broker ≡ s) × (is_broken broker ≡ false)
    × Stands memory_view broker (take (durable_of broker) history)

-- the broker has the generation that a disk with this content has
abbrev pub HasGenerationOf : {g : Ghosts MemDisk} → List ℕ → Broker MemDisk g → Type 0
HasGenerationOf content broker = HasGeneration (generation_of (opened_of broker)) content

-- unless it was broken, the broker has the generation that it had before
abbrev pub KeepsGeneration : {g : Ghosts MemDisk} → Broker MemDisk g → Broker MemDisk g → Type 0
KeepsGeneration old new = is_broken old ≡ false → generation_of (opened_of new) ≡ generation_of (opened_of old)

-- a script was run on a disk with this content, of which each image was a legal stop: its answers are those of one history, which
-- begins with what the opening recovered, and the broker stands for what that history came to
pub record IsDrilled {g : Ghosts MemDisk} (content : List ℕ) (s : Settings) (history : List Command) (durable : ℕ)
    (steps : List Step) (answers : List StepAnswer) (broker : Broker MemDisk g) : Type 0 where
  pub opened : ℕ
  pub least : durable ≤ opened
  pub most : opened ≤ length history
  pub generation : ℕ
  pub generation_is : HasGeneration generation content
  pub end : Log
  pub run : IsRun s (opening history opened generation) steps answers end
  pub settings : settings_of broker ≡ s
  pub durable_is : durable_of broker ≡ end.durable
  pub generation_now : generation_of (opened_of broker) ≡ end.generation
  pub broken_is : is_broken broker ≡ end.broken
  pub stands : Stands memory_view broker end.history

-- the script was run so, and this is what came of it
abbrev pub IsDrillOf : List ℕ → Settings → List Command → ℕ → List Step → Drill → Type 0
IsDrillOf content s history durable steps drill = IsDrilled content s history durable steps drill.answers.items drill.broker
