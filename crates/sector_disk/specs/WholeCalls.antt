-- A file's calls, repeated until all is read or written.
use Rattle.std.specs.Prelude.{◌≡◌, ℕ, ◌+◌, ◌≤◌, List, length, Result}
use Rattle.sector_disk.specs.declared.disk.Fault.{Fault}
use Rattle.sector_disk.specs.Disk.{IsRead, IsWrite}
use Rattle.sector_disk.specs.RandomAccess.{FileView, seen_as}

-- an honest file is read whole, as a disk is
abbrev pub ReadsWhole : FileView → FileView → ℕ → ℕ → List ℕ → Result (Unit {0}) Fault → Type 0
ReadsWhole old new at size out result =
    old.honest → (sectors : ℕ) → IsRead (seen_as sectors old) (seen_as sectors new) at size out result

-- an honest file's whole write
pub record IsWholeWrite (old new : FileView) (at : ℕ) (bytes : List ℕ) (result : Result (Unit {0}) Fault) : Type 0 where
  pub size : length new.content ≡ length old.content
  pub write : (sectors : ℕ) → IsWrite (seen_as sectors old) (seen_as sectors new) at bytes result

-- an honest file that has these places is written whole, as a disk is, and has as many bytes as before
abbrev pub WritesWhole : FileView → FileView → ℕ → List ℕ → Result (Unit {0}) Fault → Type 0
WritesWhole old new at bytes result =
    old.honest → at + length bytes ≤ length old.content → IsWholeWrite old new at bytes result
