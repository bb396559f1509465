-- Which faults of the command `copy` are a device's.
use Rattle.std.specs.Prelude.{Bool, true, false}
use Rattle.sector_disk.specs.declared.file.FileError.TheVariants as file_error
use Rattle.checkpoint.specs.declared.error.OpenError.TheVariants as open_error
use Rattle.disk_copy.specs.declared.error.CopyError.TheVariants as copy_error
use Rattle.broker_commands.specs.Contents.{is_contents_fault}
use Rattle.broker_commands.specs.Opening.{is_disk_fault}
use Rattle.broker_commands.specs.declared.copying.CopyingError.{CopyingError}
use Rattle.broker_commands.specs.declared.copying.CopyingError.TheVariants.{Disk, Open, File, Contents, Copy}

abbrev pub is_device_fault : CopyingError → Bool
is_device_fault (Disk why) = is_disk_fault why
is_device_fault (Open open_error.Fault) = true
is_device_fault (File file_error.Fault) = true
is_device_fault (Contents why) = is_contents_fault why
is_device_fault (Copy copy_error.Fault) = true
is_device_fault refusal = false
