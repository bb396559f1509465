-- Which disks the commands open, and which faults of that are the device's.
use Rattle.std.specs.Prelude.{ℕ, List, Bool, true, false, Result, Ok, Err, Some, None}
use Rattle.resized_disk.specs.Resized.{TellsResized}
use Rattle.resized_disk.specs.declared.told.Resized.TheVariants as found
use Rattle.sector_disk.specs.declared.file.FileError.TheVariants as file_error
use Rattle.broker_commands.specs.declared.opening.DiskError.{DiskError}
use Rattle.broker_commands.specs.declared.opening.DiskError.TheVariants.{OutOfMemory, File, Resized, Cut}

-- the image has the size that it was formatted with, as far as it tells; or its newer segment stands elsewhere; or its one open segment
-- was cut
abbrev pub TellsSize : List ℕ → Result (Unit {0}) DiskError → Type 0
TellsSize image (Ok done) = TellsResized image None
TellsSize image (Err (Resized sectors)) = TellsResized image (Some (found.Displaced sectors))
TellsSize image (Err (Cut sector)) = TellsResized image (Some (found.Cut sector))
TellsSize image (Err (OutOfMemory why)) = Unit {0}
TellsSize image (Err (File file_error.Fault)) = Unit {0}
TellsSize image (Err other) = ⊥

abbrev pub is_disk_fault : DiskError → Bool
is_disk_fault (File file_error.Fault) = true
is_disk_fault refusal = false
