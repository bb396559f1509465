-- A file that is read and written from any place on, and what its calls do to it.
use Rattle.std.specs.Prelude.{◌≡◌, ◌↔◌, ℕ, ◌+◌, ◌≤◌, List, length, take, drop, Result, IfOk}
use Rattle.sector_disk.specs.declared.disk.Fault.{Fault}
use Rattle.sector_disk.specs.Disk.{DiskView, Holds, MayDiffer, Elapses, IsUntouched, IsBarrier}

-- a file at a moment
pub record FileView : Type 1 where
  -- what a read of all of it gives
  pub content : List ℕ
  -- what a stop at this moment may leave of it
  pub may_leave : List ℕ → Type 0
  -- this moment, as a number that doesn't fall
  pub moment : ℕ
  -- what a stop at some moment from that one on might have left of it
  pub left_since : ℕ → List ℕ → Type 0
  -- the file does what the contracts say of bytes; each of those has it as a premise
  pub honest : Type 0

-- its bytes as those of a disk of so many sectors
abbrev pub seen_as : ℕ → FileView → DiskView
seen_as sectors file = record {
  sectors = sectors;
  content = file.content;
  may_leave = file.may_leave;
  moment = file.moment;
  left_since = file.left_since;
  honest = file.honest;
}

-- whether it is honest stays
abbrev pub IsSameFile : FileView → FileView → Type 0
IsSameFile old new = new.honest ↔ old.honest

-- only time went on
abbrev pub IsUnchanged : FileView → FileView → Type 0
IsUnchanged old new = (sectors : ℕ) → IsUntouched (seen_as sectors old) (seen_as sectors new)

-- a stop leaves what a read gives
abbrev pub IsDurable : FileView → Type 0
IsDurable file = (image : List ℕ) → file.may_leave image → image ≡ file.content

-- an honest file tells its size; done or failed, that changes nothing
pub record IsSizing (old new : FileView) (result : Result ℕ Fault) : Type 0 where
  pub size : IfOk result (λ size. size ≡ length old.content)
  pub unchanged : IsUnchanged old new

-- so it is, if the file is honest
abbrev pub SizesHonestly : FileView → FileView → Result ℕ Fault → Type 0
SizesHonestly old new result = old.honest → IsSizing old new result

-- an honest file's read from this place on; done or failed, it changes nothing
pub record IsReadAt (old new : FileView) (at : ℕ) (out : List ℕ) (result : Result ℕ Fault) : Type 0 where
  -- in front of out stand so many of the file's bytes as it tells
  pub bytes : IfOk result (λ count. take count out ≡ take count (drop at old.content))
  pub unchanged : IsUnchanged old new

-- such a read, if the file is honest
abbrev pub ReadsAtHonestly : FileView → FileView → ℕ → List ℕ → Result ℕ Fault → Type 0
ReadsAtHonestly old new at out result = old.honest → IsReadAt old new at out result

-- an honest file's write of these bytes from this place on, or of the first of them
pub record IsWriteAt (old new : FileView) (at : ℕ) (bytes : List ℕ) (result : Result ℕ Fault) : Type 0 where
  -- so many of them as it tells stand there, and all else is as it was
  pub content : IfOk result (λ count. Holds old.content at (take count bytes) new.content)
  -- done or failed, the file has as many bytes as before
  pub size : length new.content ≡ length old.content
  -- done or failed, a stop leaves what it might have left before it, but for these bytes
  pub images :
      (image : List ℕ) → new.may_leave image
      → (earlier : List ℕ) × old.may_leave earlier × MayDiffer at (length bytes) earlier image
  -- and it may still leave all that as it was
  pub keeps : (image : List ℕ) → old.may_leave image → new.may_leave image
  pub time : (sectors : ℕ) → Elapses (seen_as sectors old) (seen_as sectors new)

-- such a write, if the file is honest and has these places: of a write that reaches behind its end nothing is said
abbrev pub WritesAtHonestly : FileView → FileView → ℕ → List ℕ → Result ℕ Fault → Type 0
WritesAtHonestly old new at bytes result =
    old.honest → at + length bytes ≤ length old.content → IsWriteAt old new at bytes result

-- an honest file's bytes are made durable, as a disk's are by a barrier
abbrev pub SyncsHonestly : FileView → FileView → Result (Unit {0}) Fault → Type 0
SyncsHonestly old new result = old.honest → (sectors : ℕ) → IsBarrier (seen_as sectors old) (seen_as sectors new) result

-- what holds of an honest file at each moment
pub record IsFile (file : FileView) : Type 0 where
  pub reads_an_image : file.may_leave file.content
  pub counts_now : (t : ℕ) (image : List ℕ) → t ≤ file.moment → file.may_leave image → file.left_since t image
  pub only_now : (image : List ℕ) → file.left_since file.moment image → file.may_leave image
