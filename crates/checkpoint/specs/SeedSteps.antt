-- What the private steps of formatting a disk with a table leave. No public contract cites it.
use Rattle.std.specs.Prelude.{◌≡◌, ◌⊎◌, ℕ, ◌*◌, true, List, length, Result, OnOk}
use Rattle.sector_disk.specs.declared.disk.Fault.{Fault}
use Rattle.sector_disk.specs.Disk.{DiskView, HasOneImage}
use Rattle.sector_disk.specs.Moments.{LeavesOnly}
use Rattle.gate_journal.specs.Frames.{is_open}
use Rattle.checkpoint.specs.Image.{sector_at}
use Rattle.checkpoint.specs.Formatting.{IsOldButForGates}
use Rattle.checkpoint.specs.FormatSteps.{HoldsFirst, IsClosed}
use Rattle.checkpoint.specs.SwitchSteps.{OnSettled, IsBeingClosed}

-- what a stop leaves while a gate is closed if it is open
abbrev pub LeavesShutting : DiskView → DiskView → ℕ → Type 0
LeavesShutting old new sector =
    OnSettled old (LeavesOnly old new (IsBeingClosed sector (is_open (sector_at sector old.content)) old.content))

-- a gate of this image is open, where segment B begins at this sector
abbrev pub HasOpenGate : ℕ → List ℕ → Type 0
HasOpenGate second image = (is_open (sector_at 0 image) ≡ true) ⊎ (is_open (sector_at second image) ≡ true)

-- while both gates are closed: an image from before it; where a gate is open, such a one but for its gates; or one without an open gate
abbrev pub IsClosing : DiskView → ℕ → List ℕ → Type 0
IsClosing old second image =
    (old.may_leave image ⊎ (HasOpenGate second old.content × IsOldButForGates old second image))
    ⊎ ((length image ≡ 512 * old.sectors) × IsClosed second image)

-- what a stop leaves meanwhile
abbrev pub LeavesClosing : DiskView → DiskView → ℕ → Type 0
LeavesClosing old new second = old.honest → LeavesOnly old new (IsClosing old second)

-- what Ok says then
abbrev pub AreBothClosed : DiskView → DiskView → ℕ → Result (Unit {0}) Fault → Type 0
AreBothClosed old new second result = old.honest → OnOk result (HasOneImage new × IsClosed second new.content)

-- while this segment is then made the live one: such an image, or one that holds the segment
abbrev pub IsBeingSeeded : DiskView → ℕ → List ℕ → List ℕ → Type 0
IsBeingSeeded old second segment image =
    IsClosing old second image ⊎ ((length image ≡ 512 * old.sectors) × HoldsFirst second segment image)

-- what a stop leaves meanwhile
abbrev pub LeavesSeedSteps : DiskView → DiskView → ℕ → List ℕ → Type 0
LeavesSeedSteps old new second segment = old.honest → LeavesOnly old new (IsBeingSeeded old second segment)
