-- What the trial does: its settings and its one command, and which errors are faults of the device.
use Rattle.std.specs.Prelude.{◌≡◌, ℕ, Bool, true, false, codes, List, [], ◌∷◌, length}
use Rattle.sector_disk.specs.Disk.{DiskView}
use Rattle.sector_disk.specs.Memory.{memory_view}
use Rattle.sector_disk.specs.declared.disk.Disk.{Ghosts}
use Rattle.sector_disk.specs.declared.memory.MemDisk.{MemDisk}
use Rattle.retry_rules.specs.declared.settings.Settings.{Settings}
use Rattle.invoke_records.specs.declared.command.Command.{Command}
use Rattle.invoke_records.specs.declared.command.Kind.TheVariants.{Accept}
use Rattle.async_core.specs.History.{IsLegal}
use Rattle.checkpoint.specs.declared.error.FormatError.TheVariants as format_error
use Rattle.checkpoint.specs.declared.error.OpenError.TheVariants as open_error
use Rattle.broker_core.specs.declared.error.CommitError.TheVariants as commit_error
use Rattle.broker_core.specs.declared.broker.Broker.{Broker}
use Rattle.broker_core.specs.History.{IsLegalStop}
use Rattle.broker_core.specs.Broker.{settings_of, durable_of, Stands}
use Rattle.broker_trial.specs.declared.trial.Accepted.{Accepted}
use Rattle.broker_trial.specs.declared.trial.TrialError.{TrialError}
use Rattle.broker_trial.specs.declared.trial.TrialError.TheVariants.{Format, Open, Commit}

abbrev pub trial_settings : Settings
trial_settings = record {
  retries = 2;
  age = 21600;
  timeout = 3;
  concurrency = 10;
  environments = 1;
  events = 4;
  payload = 1024;
  response = 1024;
  name = codes "my-function";
  handler = codes "app.main";
  arn = codes "arn:aws:lambda:us-east-2:123456789012:function:my-function";
}

abbrev pub trial_acceptance : Command
trial_acceptance = record {
  kind = Accept;
  id = 0 ∷ 0 ∷ 0 ∷ 0 ∷ 0 ∷ 0 ∷ 64 ∷ 0 ∷ 128 ∷ 0 ∷ 0 ∷ 0 ∷ 0 ∷ 0 ∷ 0 ∷ 1 ∷ [];
  environment = 0;
  time = 1573755365568;
  bytes = codes "{}";
}

-- the history is legal, and each image of the disk recovers to all of it
pub record Holds (disk : DiskView) (history : List Command) : Type 0 where
  pub legal : IsLegal trial_settings history
  pub stops : (image : List ℕ) → disk.may_leave image → IsLegalStop trial_settings history (length history) image

-- the broker stands for this history, which is all durable
abbrev pub IsOpened : {g : Ghosts MemDisk} → List Command → Broker MemDisk g → Type 0
IsOpened history broker =
    (settings_of broker ≡ trial_settings) × (durable_of broker ≡ length history) × Stands memory_view broker history

-- the event is the first command, and the disk holds it
pub record IsAccepted (accepted : Accepted) : Type 0 where
  pub first : accepted.number ≡ 1
  pub durable : accepted.durable ≡ 1
  pub holds : Holds (memory_view accepted.disk) (trial_acceptance ∷ [])

abbrev pub is_device_fault : TrialError → Bool
is_device_fault (Format format_error.Fault) = true
is_device_fault (Open open_error.Fault) = true
is_device_fault (Commit commit_error.Fault) = true
is_device_fault refusal = false
