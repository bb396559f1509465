-- What goes between the two halves, as contracts see it.
use Rattle.std.specs.Prelude.{ℕ, true, false, Bool, List, Result, Ok, Err}
use Rattle.invoke_records.specs.declared.command.Command.{Command}
use Rattle.broker_core.specs.declared.batch.Batch.{Batch}
use Rattle.broker_core.specs.declared.batch.Written.{Written}
use Rattle.broker_core.specs.declared.batch.Failed.{Failed}
use Rattle.broker_core.specs.declared.error.WriteError.{WriteError}
use Rattle.broker_core.specs.declared.error.WriteError.TheVariants as write_error

-- the number of a batch's first command
abbrev pub first_of : Batch → ℕ
first_of batch = batch.first

-- the number of its last command
abbrev pub last_of : Batch → ℕ
last_of batch = batch.last

-- its commands, in order
abbrev pub commands_of : Batch → List Command
commands_of batch = batch.commands.items

-- the number of the first command of a batch that was written
abbrev pub first_written : Written → ℕ
first_written written = written.first

-- and of its last
abbrev pub last_written : Written → ℕ
last_written written = written.last

-- the number of the first command of a batch that was not written
abbrev pub first_failed : Failed → ℕ
first_failed failed = failed.first

-- and of its last
abbrev pub last_failed : Failed → ℕ
last_failed failed = failed.last

-- why it was not written
abbrev pub cause_of : Failed → WriteError
cause_of failed = failed.cause

-- the number of the first command of the batch that a write was of
abbrev pub first_in : Result Written Failed → ℕ
first_in (Ok written) = first_written written
first_in (Err failed) = first_failed failed

-- and of its last
abbrev pub last_in : Result Written Failed → ℕ
last_in (Ok written) = last_written written
last_in (Err failed) = last_failed failed

-- the device failed: the half over the disk is broken
abbrev pub is_lasting : WriteError → Bool
is_lasting write_error.Broken = true
is_lasting write_error.Fault = true
is_lasting why = false
