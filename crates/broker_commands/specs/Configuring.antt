-- What the command `configure` does to a disk's history, and which of its faults are the device's.
use Rattle.std.specs.Prelude.{◌≡◌, ◌≤◌, ℕ, Bool, true, false, List, [], ◌∷◌, ◌++◌, length, take, Option, Some, None, max, if◌then◌else◌}
use Rattle.sector_disk.specs.Disk.{DiskView}
use Rattle.sector_disk.specs.declared.disk.Disk.{Ghosts}
use Rattle.retry_rules.specs.declared.policy.RetryPolicy.{RetryPolicy}
use Rattle.retry_rules.specs.declared.settings.Field.{Field}
use Rattle.retry_rules.specs.declared.settings.Field.TheVariants as field
use Rattle.retry_rules.specs.declared.settings.Settings.{Settings}
use Rattle.retry_rules.specs.Settings.{is_outside}
use Rattle.invoke_records.specs.declared.command.Command.{Command}
use Rattle.invoke_records.specs.declared.command.Kind.TheVariants.{Configure}
use Rattle.invoke_records.specs.declared.snapshot.Snapshot.{Snapshot}
use Rattle.async_core.specs.History.{last_moment, in_force}
use Rattle.checkpoint.specs.declared.error.OpenError.TheVariants as open_error
use Rattle.broker_core.specs.History.{IsLegalStop}
use Rattle.broker_core.specs.declared.broker.Broker.{Broker}
use Rattle.broker_core.specs.declared.error.CommitError.TheVariants as commit_error
use Rattle.broker_core.specs.Broker.{settings_of, IsReason, Stands}
use Rattle.broker_core.specs.Promises.{ForEachHistoryOn}
use Rattle.broker_commands.specs.Opening.{is_disk_fault}
use Rattle.broker_commands.specs.declared.configuring.ConfiguringError.{ConfiguringError}
use Rattle.broker_commands.specs.declared.configuring.ConfiguringError.TheVariants as error
use Rattle.broker_commands.specs.declared.configuring.NewPolicy.{NewPolicy}

-- the number that is told, or else this one
abbrev pub told_or : Option ℕ → ℕ → ℕ
told_or (Some n) other = n
told_or None other = other

-- the first option that is told and outside its range
abbrev pub bad_option : NewPolicy → Option Field
bad_option new =
    if is_outside 0 2 (told_or new.retries 0) then Some field.Retries
    else (if is_outside 60 21600 (told_or new.age 60) then Some field.Age else None)

-- the retry policy that is wanted where this one is in force
abbrev pub policy_for : RetryPolicy → NewPolicy → RetryPolicy
policy_for before new = record { retries = told_or new.retries before.retries; age = told_or new.age before.age }

-- the command that is issued where this is in force and this was the last moment
abbrev pub configure_with : RetryPolicy → ℕ → NewPolicy → ℕ → Command
configure_with before last new now = record {
  kind = Configure (policy_for before new);
  id = 0 ∷ 0 ∷ 0 ∷ 0 ∷ 0 ∷ 0 ∷ 0 ∷ 0 ∷ 0 ∷ 0 ∷ 0 ∷ 0 ∷ 0 ∷ 0 ∷ 0 ∷ 0 ∷ [];
  environment = 0;
  time = max now last;
  bytes = [];
}

-- the one that is issued behind this history
abbrev pub configure_after : Settings → List Command → NewPolicy → ℕ → Command
configure_after s history new now = configure_with (in_force s history) (last_moment history) new now

-- the one that is issued where this is the table
abbrev pub configure_at : Snapshot → NewPolicy → ℕ → Command
configure_at table new now = configure_with table.policy table.last_moment new now

-- the history with it
abbrev pub with_configure : Settings → List Command → NewPolicy → ℕ → List Command
with_configure s history new now = history ++ configure_after s history new now ∷ []

-- behind this history just that command was issued
abbrev pub IsConfigured : {D : Type 0} {g : Ghosts D} → (D → DiskView) → NewPolicy → ℕ → List Command → Broker D g → Type 0
IsConfigured view new now history broker = Stands view broker (with_configure (settings_of broker) history new now)

-- each image of the disk holds, all durable, a prefix of the history with the durable commands, and behind it that command
abbrev pub HoldsConfigured : Settings → List Command → ℕ → NewPolicy → ℕ → DiskView → Type 0
HoldsConfigured s history durable new now disk =
    (size : ℕ) × (durable ≤ size) × (size ≤ length history)
    × ((image : List ℕ) → disk.may_leave image
    → IsLegalStop s (with_configure s (take size history) new now) (length (with_configure s (take size history) new now)) image)

-- if the disk was honest, each image holds that behind each history of which all images of the first disk were legal stops
abbrev pub WasConfigured : DiskView → NewPolicy → ℕ → DiskView → Type 0
WasConfigured old new now disk =
    old.honest → ForEachHistoryOn old (λ s history durable. HoldsConfigured s history durable new now disk)

-- it was not configured since the broker did not issue that command, for this reason, or did not commit it
abbrev pub IsRefusal : {D : Type 0} {g : Ghosts D} → Broker D g → Command → ConfiguringError → Type 0
IsRefusal broker command (error.Issue why) = IsReason broker command why
IsRefusal broker command (error.Commit why) = Unit {0}
IsRefusal broker command other = ⊥

-- what is told of the values that were asked for is just that
abbrev pub IsAsked : NewPolicy → ℕ × ℕ → Type 0
IsAsked new pair = (pair.0 ≡ told_or new.retries pair.0) × (pair.1 ≡ told_or new.age pair.1)

-- it is refused for a bad option
abbrev pub refused_for : Field → ConfiguringError
refused_for field = error.Settings (record { field = field })

abbrev pub is_device_fault : ConfiguringError → Bool
is_device_fault (error.Disk why) = is_disk_fault why
is_device_fault (error.Open open_error.Fault) = true
is_device_fault (error.Commit commit_error.Fault) = true
is_device_fault refusal = false
