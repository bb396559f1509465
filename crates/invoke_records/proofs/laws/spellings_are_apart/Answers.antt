use Rattle.invoke_records.specs.laws.Commands.{command_apart}
use Rattle.invoke_records.specs.laws.Settings.{settings_apart}
use Rattle.invoke_records.specs.laws.Rows.{row_apart}
use Rattle.invoke_records.specs.laws.Snapshots.{snapshot_apart}
use Rattle.invoke_records.proofs.laws.spellings_are_apart.Goals as goal

pub returns : goal.returns
returns c = record { commands = command_apart; settings = settings_apart; rows = row_apart; snapshots = snapshot_apart }
