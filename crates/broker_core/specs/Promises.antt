-- What the calls of a broker promise of the histories that it stands for, and of what a stop leaves of them.
use Rattle.std.specs.Prelude.{◌≡◌, ℕ, ◌+◌, ◌≤◌, [], ◌∷◌, ◌++◌, List, length, take, None}
use Rattle.sector_disk.specs.Disk.{DiskView}
use Rattle.sector_disk.specs.Moments.{LeavesOnly}
use Rattle.sector_disk.specs.declared.disk.Disk.{Ghosts}
use Rattle.retry_rules.specs.declared.settings.Settings.{Settings}
use Rattle.invoke_records.specs.declared.command.Command.{Command}
use Rattle.async_core.specs.History.{IsLegal, refusal_of}
use Rattle.broker_core.specs.declared.broker.Broker.{Broker}
use Rattle.broker_core.specs.History.{IsLegalStop}
use Rattle.broker_core.specs.Broker.{disk_of, settings_of, issued_of, durable_of, Stands}

-- this holds of each history that the broker stands for
abbrev pub ForEachHistory : {D : Type 0} {g : Ghosts D} → (D → DiskView) → Broker D g → (List Command → Type 0) → Type 0
ForEachHistory view broker P = (history : List Command) → Stands view broker history → P history

-- this holds of each legal history and durable number such that each image of the disk is a legal stop
abbrev pub ForEachHistoryOn : DiskView → (Settings → List Command → ℕ → Type 0) → Type 0
ForEachHistoryOn disk P =
    (s : Settings) (history : List Command) (durable : ℕ) → IsLegal s history
    → ((image : List ℕ) → disk.may_leave image → IsLegalStop s history durable image) → P s history durable

-- at any moment since the broker was this one, a stop leaves a legal stop of its history
abbrev pub LeavesLegalStops : {D : Type 0} {g : Ghosts D} → (D → DiskView) → Broker D g → D → Type 0
LeavesLegalStops view old disk =
    (view (disk_of old)).honest
    → ForEachHistory view old
    (λ history. LeavesOnly (view (disk_of old)) (view disk) (IsLegalStop (settings_of old) history (durable_of old)))

-- at any moment in between, a stop leaves an image from before
abbrev pub LeavesWhatWas : DiskView → DiskView → Type 0
LeavesWhatWas old new = LeavesOnly old new old.may_leave

-- the broker has these settings and stands for a prefix of the history with at least the durable commands
abbrev pub IsRecovered : {D : Type 0} {g : Ghosts D} → (D → DiskView) → Settings → List Command → ℕ → Broker D g → Type 0
IsRecovered view s history durable broker =
    (durable ≤ issued_of broker) × (issued_of broker ≤ length history) × (settings_of broker ≡ s)
    × Stands view broker (take (issued_of broker) history)

-- the command is legal after the history and has the next number, and the broker then stands for the history with it
abbrev pub Accepts : {D : Type 0} {g : Ghosts D} → (D → DiskView) → Broker D g → List Command → Command → Broker D g → ℕ → Type 0
Accepts view old history command new ticket =
    (refusal_of (settings_of old) history command ≡ None) × (ticket ≡ length history + 1) × Stands view new (history ++ command ∷ [])

-- the whole history is durable, which is so many commands
abbrev pub HasAllDurable : {D : Type 0} {g : Ghosts D} → Broker D g → List Command → ℕ → Type 0
HasAllDurable broker history durable = (durable ≡ length history) × (durable_of broker ≡ length history)

-- the number is that of a durable command
abbrev pub IsReceiptFor : {D : Type 0} {g : Ghosts D} → Broker D g → ℕ → ℕ → Type 0
IsReceiptFor broker ticket receipt = (receipt ≡ ticket) × (ticket ≤ durable_of broker)
