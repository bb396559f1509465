-- What a stop may leave of a history.
use Rattle.std.specs.Prelude.{ℕ, ◌≡◌, ◌≤◌, None, List, length, take}
use Rattle.retry_rules.specs.declared.settings.Settings.{Settings}
use Rattle.retry_rules.specs.Settings.{bad_field}
use Rattle.invoke_records.specs.declared.command.Command.{Command}
use Rattle.async_core.specs.History.{table_of}
use Rattle.checkpoint.specs.Live.{RecoversTo}

-- settings of which each field is within its range
pub record AreGood (s : Settings) : Type 0 where
  pub check : bad_field s ≡ None

-- the image recovers to the table after a prefix of the history that has at least the durable commands
pub record IsLegalStop (s : Settings) (history : List Command) (durable : ℕ) (image : List ℕ) : Type 0 where
  pub size : ℕ
  pub least : durable ≤ size
  pub most : size ≤ length history
  pub recovers : RecoversTo s (table_of s (take size history)) image
