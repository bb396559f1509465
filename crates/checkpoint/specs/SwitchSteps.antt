-- What the private steps of a switch leave. No public contract cites it.
use Rattle.std.specs.Prelude.{◌≡◌, ◌⊎◌, ℕ, ◌+◌, Bool, true, false, List, Result, OnOk}
use Rattle.sector_disk.specs.declared.disk.Fault.{Fault}
use Rattle.sector_disk.specs.Disk.{DiskView, HasOneImage}
use Rattle.sector_disk.specs.Moments.{LeavesOnly}
use Rattle.gate_journal.specs.Frames.{is_open}
use Rattle.checkpoint.specs.Image.{sector_at}
use Rattle.checkpoint.specs.Pieces.{DiffersWithin, StandsFrom}

-- the gate at this sector of the disk is open, or it is not
abbrev pub HasGate : DiskView → ℕ → Bool → Type 0
HasGate disk sector opened = is_open (sector_at sector disk.content) ≡ opened

-- this holds of an honest disk with one image
abbrev pub OnSettled : DiskView → Type 0 → Type 0
OnSettled disk P = disk.honest → HasOneImage disk → P

-- the disk has one image, which is the old one but for these sectors
pub record IsRewritten (old new : DiskView) (first last : ℕ) : Type 0 where
  pub settled : HasOneImage new
  pub differs : DiffersWithin first last old.content new.content

-- what Ok says of sectors that were written and settled
abbrev pub Rewrites : DiskView → DiskView → ℕ → ℕ → Result (Unit {0}) Fault → (List ℕ → Type 0) → Type 0
Rewrites old new first last result P = OnSettled old (OnOk result (IsRewritten old new first last × P new.content))

-- what a stop leaves at any moment while they are: the old image but for them
abbrev pub LeavesElsewhere : DiskView → DiskView → ℕ → ℕ → Type 0
LeavesElsewhere old new first last = OnSettled old (LeavesOnly old new (DiffersWithin first last old.content))

-- an image while the gate at this sector is closed, where it was open
abbrev pub IsBeingClosed : ℕ → Bool → List ℕ → List ℕ → Type 0
IsBeingClosed sector was_open was image =
    DiffersWithin sector (sector + 1) was image × ((was_open ≡ true) ⊎ (is_open (sector_at sector image) ≡ false))

-- an image while the segment at this sector, of so many, is made the live one: only its gate differs, which was open, or only
-- the segment, of which the gate is closed or these bytes stand behind the gate
abbrev pub IsSwitching : ℕ → ℕ → Bool → List ℕ → List ℕ → List ℕ → Type 0
IsSwitching base sectors was_open text was image =
    ((was_open ≡ true) × DiffersWithin base (base + 1) was image)
    ⊎ (DiffersWithin base (base + sectors) was image × ((is_open (sector_at base image) ≡ false) ⊎ StandsFrom (base + 1) text image))

-- what a stop leaves meanwhile
abbrev pub LeavesSwitching : DiskView → DiskView → ℕ → ℕ → Bool → List ℕ → Type 0
LeavesSwitching old new base sectors was_open text =
    OnSettled old (HasGate old base was_open → LeavesOnly old new (IsSwitching base sectors was_open text old.content))

-- an image of which that segment was made the live one
pub record IsSwitched (base sectors : ℕ) (text was image : List ℕ) : Type 0 where
  pub differs : DiffersWithin base (base + sectors) was image
  pub gate : is_open (sector_at base image) ≡ true
  pub stands : StandsFrom (base + 1) text image
