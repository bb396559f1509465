-- What `format` is told, as settings, and which of its faults are the device's.
use Rattle.std.specs.Prelude.{Bool, true, false}
use Rattle.sector_disk.specs.declared.file.FileError.TheVariants as file_error
use Rattle.retry_rules.specs.declared.settings.Settings.{Settings}
use Rattle.checkpoint.specs.declared.error.FormatError.TheVariants as format_error
use Rattle.broker_commands.specs.declared.formatting.Function.{Function}
use Rattle.broker_commands.specs.declared.formatting.NumericSettings.{NumericSettings}
use Rattle.broker_commands.specs.declared.formatting.NewDiskError.{NewDiskError}
use Rattle.broker_commands.specs.declared.formatting.NewDiskError.TheVariants.{File, Contents, Disk, Format}
use Rattle.broker_commands.specs.Contents.{is_contents_fault}
use Rattle.broker_commands.specs.Opening.{is_disk_fault}

-- the settings of the function that was told, with these numbers
abbrev pub settings_for : Function → NumericSettings → Settings
settings_for function n = record {
  retries = n.retries;
  age = n.age;
  timeout = n.timeout;
  concurrency = n.concurrency;
  environments = n.environments;
  events = n.events;
  payload = n.payload;
  response = n.response;
  name = function.name.now;
  handler = function.handler.now;
  arn = function.arn.now;
}

abbrev pub is_device_fault : NewDiskError → Bool
is_device_fault (File file_error.Fault) = true
is_device_fault (Contents why) = is_contents_fault why
is_device_fault (Disk why) = is_disk_fault why
is_device_fault (Format format_error.Fault) = true
is_device_fault refusal = false
