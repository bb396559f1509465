-- What is told of the claim of a disk.
use Rattle.std.specs.Prelude.{ℕ, List, Result, Ok, Err}
use Rattle.sector_disk.specs.declared.file.FileError.TheVariants as file_error
use Rattle.disk_gates.specs.Claims.{IsClaimed, IsFree}
use Rattle.broker_commands.specs.declared.opening.DiskError.{DiskError}
use Rattle.broker_commands.specs.declared.opening.DiskError.TheVariants.{File, Claimed}

-- what is told of an image
abbrev pub TellsClaim : List ℕ → Result (Unit {0}) DiskError → Type 0
TellsClaim image (Ok done) = IsFree image
TellsClaim image (Err Claimed) = IsClaimed image
TellsClaim image (Err (File file_error.Fault)) = Unit {0}
TellsClaim image (Err other) = ⊥
