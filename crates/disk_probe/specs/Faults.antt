-- Which refusals of a probe are the device's.
use Rattle.std.specs.Prelude.{Bool, true, false}
use Rattle.sector_disk.specs.declared.file.FileError.TheVariants as file_error
use Rattle.disk_probe.specs.declared.error.ProbeError.{ProbeError}
use Rattle.disk_probe.specs.declared.error.ProbeError.TheVariants.{File, Witness}

abbrev pub is_device_fault : ProbeError → Bool
is_device_fault (File file_error.Fault) = true
is_device_fault (Witness file_error.Fault) = true
is_device_fault refusal = false
