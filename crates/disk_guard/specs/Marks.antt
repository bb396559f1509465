-- What is watched of a disk: sectors, with the bytes that stand there.
use Rattle.std.specs.Prelude.{◌≡◌, ℕ, ◌+◌, ◌*◌, ◌<◌, ◌%◌, ◌≤◌, Bool, true, ◌&&◌, not, List, [], ◌∷◌, length, take, drop, Option, Some, None, IfSome, IsSome, nat_eq, slice_index_or}
use Rattle.std.specs.List.{All, list_any, starts_with}
use Rattle.sector_disk.specs.Disk.{MayDiffer}
use Rattle.disk_guard.specs.declared.marks.Mark.{Mark}
use Rattle.disk_guard.specs.declared.marks.Marks.{Marks}
use Rattle.disk_guard.specs.declared.recent.Recent.{Recent}

-- A I N V O K E, with which a header begins
abbrev pub is_header : List ℕ → Bool
is_header sector = starts_with nat_eq sector (65 ∷ 73 ∷ 78 ∷ 86 ∷ 79 ∷ 75 ∷ 69 ∷ [])

abbrev pub says_something : List ℕ → Bool
says_something bytes = list_any (λ byte. not (nat_eq byte 0)) bytes

-- a sector that tells one disk from another: no header, and no gate, of which all but the first byte are zeros
abbrev pub is_telling : List ℕ → Bool
is_telling sector = not (is_header sector) && says_something (drop 1 sector)

-- these bytes stand in a disk of that content from this sector on
abbrev pub StandFrom : List ℕ → ℕ → List ℕ → Type 0
StandFrom content sector bytes = take (length bytes) (drop (512 * sector) content) ≡ bytes

-- these bytes are a sector's
abbrev pub StandsIn : List ℕ → ℕ → List ℕ → Type 0
StandsIn content sector bytes = take 512 (drop (512 * sector) content) ≡ bytes

-- what a mark says stands there, where there is one
abbrev pub IsRight : List ℕ → Option Mark → Type 0
IsRight content mark = IfSome mark (λ mark. StandsIn content mark.sector mark.bytes)

-- the mark is of the first of these sectors, from that one on, where it tells anything
abbrev pub MarksFront : ℕ → List ℕ → Option Mark → Type 0
MarksFront at bytes mark = 512 ≤ length bytes → is_telling (take 512 bytes) ≡ true → IsSome mark × IfSome mark (λ mark. mark.sector ≡ at)

-- a disk's content before and behind a write: so many sectors from this one on may differ
abbrev pub SectorsDiffer : ℕ → ℕ → List ℕ → List ℕ → Type 0
SectorsDiffer at count old new = MayDiffer (512 * at) (512 * count) old new

-- what a mark says stands there still, once these sectors may differ
abbrev pub Outlives : ℕ → ℕ → Option Mark → Type 0
Outlives at count mark = (old new : List ℕ) → IsRight old mark → SectorsDiffer at count old new → IsRight new mark

-- this sector is one of so many from there on
abbrev pub LiesWithin : ℕ → ℕ → ℕ → Type 0
LiesWithin at count sector = (at ≤ sector) × (sector < at + count)

-- what each of these marks says stands there
abbrev pub AreRecentRight : List ℕ → Recent → Type 0
AreRecentRight content recent = All (IsRight content) recent.marks

-- this mark is kept in this place
abbrev pub KeepsAt : ℕ → Recent → Mark → Type 0
KeepsAt place recent mark = slice_index_or recent.marks place None ≡ Some mark

-- what each mark says stands there
pub record AreRight (content : List ℕ) (marks : Marks) : Type 0 where
  pub low : IsRight content marks.low
  pub high : IsRight content marks.high
  pub last : IsRight content marks.last
  pub recent : AreRecentRight content marks.recent

-- what was written first behind a look, where its front tells anything, is kept beside what was written last
abbrev pub KeepsFirst : List ℕ → Recent → Marks → Type 0
KeepsFirst bytes before marks =
    512 ≤ length bytes → is_telling (take 512 bytes) ≡ true → before.written ≡ 0
    → IfSome marks.last (λ mark. KeepsAt (before.kept % 64) marks.recent mark)
