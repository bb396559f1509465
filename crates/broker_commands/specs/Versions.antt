-- What is told of the version of a disk.
use Rattle.std.specs.Prelude.{◌≡◌, ℕ, true, false, List, Result, Ok, Err}
use Rattle.sector_disk.specs.declared.file.FileError.TheVariants as file_error
use Rattle.disk_gates.specs.Versions.{is_newer_disk}
use Rattle.broker_commands.specs.declared.opening.DiskError.{DiskError}
use Rattle.broker_commands.specs.declared.opening.DiskError.TheVariants.{File, NewerVersion}

-- what is told of an image
abbrev pub TellsVersion : List ℕ → Result (Unit {0}) DiskError → Type 0
TellsVersion image (Ok done) = is_newer_disk image ≡ false
TellsVersion image (Err NewerVersion) = is_newer_disk image ≡ true
TellsVersion image (Err (File file_error.Fault)) = Unit {0}
TellsVersion image (Err other) = ⊥
