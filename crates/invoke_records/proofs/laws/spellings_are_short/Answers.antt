use Rattle.invoke_records.specs.laws.Commands.{command_length, body_bound}
use Rattle.invoke_records.specs.laws.Settings.{settings_length_most}
use Rattle.invoke_records.specs.laws.Rows.{row_length}
use Rattle.invoke_records.proofs.laws.spellings_are_short.Goals as goal

pub returns : goal.returns
returns c = record { commands = λ d is. (command_length d is.id, body_bound d is); settings = settings_length_most; rows = λ r is. row_length r is.within.id }
