-- What may be formatted over, and why anything else may not.
use Rattle.std.specs.Prelude.{◌≡◌, ◌≢◌, ◌⊎◌, ℕ, List, Bool, true, false, Err, Some}
use Rattle.resized_disk.specs.Blank.{is_blank}
use Rattle.resized_disk.specs.Resized.{TellsResized}
use Rattle.resized_disk.specs.declared.told.Resized.TheVariants as found
use Rattle.sector_disk.specs.declared.file.FileError.TheVariants as file_error
use Rattle.checkpoint.specs.Image.{recovered}
use Rattle.checkpoint.specs.declared.error.OpenError.TheVariants as open_error
use Rattle.audit_report.specs.Report.{IsReportOn}
use Rattle.audit_report.specs.declared.report.Report.{Report}
use Rattle.disk_gates.specs.Versions.{is_newer_disk}
use Rattle.broker_commands.specs.declared.opening.DiskError.{DiskError}
use Rattle.broker_commands.specs.declared.opening.DiskError.TheVariants as disk_error
use Rattle.broker_commands.specs.declared.contents.ContentsError.{ContentsError}
use Rattle.broker_commands.specs.declared.contents.ContentsError.TheVariants.{Holds, NotEmpty, Disk, Open}

-- a formatted disk with this image holds so many events
abbrev pub HoldsEvents : ℕ → List ℕ → Type 0
HoldsEvents events image = (report : Report) × IsReportOn image report × (report.held ≡ events)

-- all zeros, or a formatted disk that holds nothing
abbrev pub IsFree : List ℕ → Type 0
IsFree image = (is_blank image ≡ true) ⊎ HoldsEvents 0 image

-- it was not looked at for want of memory, or since the device failed
abbrev pub IsPassing : DiskError → Type 0
IsPassing (disk_error.OutOfMemory why) = Unit {0}
IsPassing (disk_error.File file_error.Fault) = Unit {0}
IsPassing other = ⊥

-- why an image that is opened is not formatted over: it holds events, or it does not open
abbrev pub IsUnopened : List ℕ → ContentsError → Type 0
IsUnopened image (Holds events) = HoldsEvents events image × (events ≢ 0)
IsUnopened image NotEmpty = recovered image ≡ Err open_error.NotFormatted
IsUnopened image (Disk why) = ⊥
IsUnopened image (Open (open_error.Damaged sector)) = recovered image ≡ Err (open_error.Damaged sector)
IsUnopened image (Open open_error.OldVersion) = recovered image ≡ Err open_error.OldVersion
IsUnopened image (Open open_error.NotFormatted) = ⊥
IsUnopened image (Open other) = Unit {0}

-- why an image is not formatted over: it has another size than it was formatted with, or is of a later version, or one of those
abbrev pub IsOccupied : List ℕ → ContentsError → Type 0
IsOccupied image (Disk (disk_error.Resized sectors)) = TellsResized image (Some (found.Displaced sectors))
IsOccupied image (Disk (disk_error.Cut sector)) = TellsResized image (Some (found.Cut sector))
IsOccupied image (Disk disk_error.NewerVersion) = is_newer_disk image ≡ true
IsOccupied image (Disk other) = IsPassing other
IsOccupied image other = IsUnopened image other

abbrev pub is_contents_fault : ContentsError → Bool
is_contents_fault (Disk (disk_error.File file_error.Fault)) = true
is_contents_fault (Open open_error.Fault) = true
is_contents_fault refusal = false
