-- Which refusals of an opening are the device's.
use Rattle.std.specs.Prelude.{Bool, true, false}
use Rattle.checkpoint.specs.declared.error.OpenError.TheVariants as open_error
use Rattle.broker_core.specs.declared.error.CommitError.TheVariants as commit_error
use Rattle.broker_commands.specs.Opening.{is_disk_fault}
use Rattle.broker_opening.specs.declared.error.OpeningError.{OpeningError}
use Rattle.broker_opening.specs.declared.error.OpeningError.TheVariants.{Disk, Open, Commit, Broken}

abbrev pub is_opening_fault : OpeningError → Bool
is_opening_fault (Disk why) = is_disk_fault why
is_opening_fault (Open open_error.Fault) = true
is_opening_fault (Commit commit_error.Fault) = true
is_opening_fault Broken = true
is_opening_fault refusal = false
