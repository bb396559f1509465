-- What is written in pieces to a range of sectors, and what a stop may leave meanwhile.
use Rattle.std.specs.Prelude.{◌≡◌, ℕ, ◌+◌, ◌-◌, ◌*◌, ◌≤◌, List, [], ◌++◌, length, take, drop, replicate, Result, OnOk}
use Rattle.sector_disk.specs.declared.disk.Fault.{Fault}
use Rattle.sector_disk.specs.Disk.{DiskView, IsSameDisk}
use Rattle.sector_disk.specs.Moments.{LeavesOnly}
use Rattle.invoke_records.specs.declared.snapshot.Snapshot.{Snapshot}
use Rattle.invoke_records.specs.Spelling.{snapshot_text}
use Rattle.gate_journal.specs.Frames.{sectors_for, padded}
use Rattle.checkpoint.specs.declared.pieces.Pieces.{Pieces}

-- an image that is another but for the sectors from first to before last
pub record DiffersWithin (first last : ℕ) (was image : List ℕ) : Type 0 where
  pub size : length image ≡ length was
  pub before : take (512 * first) image ≡ take (512 * first) was
  pub behind : drop (512 * last) image ≡ drop (512 * last) was

-- each image that the disk may leave is this one but for those sectors
abbrev pub IsWithin : ℕ → ℕ → List ℕ → DiskView → Type 0
IsWithin first last was disk = (image : List ℕ) → disk.may_leave image → DiffersWithin first last was image

-- where an honest disk differed from an image in those sectors alone, it still does, and so does what a stop leaves at any moment
abbrev pub LeavesWithin : DiskView → DiskView → ℕ → ℕ → Type 0
LeavesWithin old new first last =
    old.honest → (was : List ℕ) → IsWithin first last was old
    → LeavesOnly old new (DiffersWithin first last was) × IsWithin first last was new

-- how far the bytes have come: a place of the disk
abbrev pub reached : Pieces → ℕ
reached p = 512 * p.at + length p.piece.items

-- what stands in front of that place: the disk's bytes up to the next sector, then those of the piece
abbrev pub front : List ℕ → Pieces → List ℕ
front content p = take (512 * p.at) content ++ p.piece.items

-- nothing is on its way, from this sector to before that one
pub record IsEmptyFrom (p : Pieces) (start end : ℕ) : Type 0 where
  pub piece : p.piece.items ≡ []
  pub at : p.at ≡ start
  pub first : p.first ≡ start
  pub last : p.last ≡ end

-- so many bytes more are within the range, and that is on the disk
pub record HasSpace (disk : DiskView) (p : Pieces) (size : ℕ) : Type 0 where
  pub within : reached p + size ≤ 512 * p.last
  pub inside : p.last ≤ disk.sectors

-- the disk and the piece have taken these bytes, within the range; after a fault some of them
pub record Puts (old new : DiskView) (from to : Pieces) (bytes : List ℕ) (result : Result (Unit {0}) Fault) : Type 0 where
  pub same : IsSameDisk old new
  pub first : to.first ≡ from.first
  pub last : to.last ≡ from.last
  pub reached : OnOk result (reached to ≡ reached from + length bytes)
  pub front : old.honest → OnOk result (front new.content to ≡ front old.content from ++ bytes)
  pub any_moment : LeavesWithin old new from.first from.last

-- what comes behind a snapshot of so many bytes: zeros to the end of its last sector, and a closed gate
abbrev pub ending : ℕ → List ℕ
ending size = replicate (512 * sectors_for size - size) 0 ++ replicate 512 0

-- a header, a snapshot to the end of its last sector, and a closed gate
abbrev pub parts_text : List ℕ → Snapshot → List ℕ
parts_text header snapshot = header ++ (padded (snapshot_text snapshot) ++ replicate 512 0)

-- these bytes stand from this sector on
abbrev pub StandsFrom : ℕ → List ℕ → List ℕ → Type 0
StandsFrom first text content = take (length text) (drop (512 * first) content) ≡ text
