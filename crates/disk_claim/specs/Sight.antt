-- How a disk is seen whose claim may be lost.
use Rattle.std.specs.Prelude.{◌≡◌, ℕ, ◌+◌, ◌-◌, ◌^◌, min, Option, Some, None}
use Rattle.std.specs.declared.snapshot.Snapshot.{Snapshot}
use Rattle.sector_disk.specs.Disk.{DiskView, IsDisk}

-- as the disk within, or as that was before the barrier whose look did not show the own token
abbrev pub seen_as : {D : Type 0} → (D → DiskView) → D → Option (Snapshot D) → DiskView
seen_as view disk None = view disk
seen_as view disk (Some before) = view before.value

-- what is seen has as many sectors as the disk within
abbrev pub HasSameSize : {D : Type 0} → (D → DiskView) → D → Option (Snapshot D) → Type 0
HasSameSize view disk lost = (seen_as view disk lost).sectors ≡ (view disk).sectors

-- one more, up to the greatest number
abbrev pub counted : ℕ → ℕ
counted count = min (count + 1) (2 ^ 64 - 1)

-- what holds of a disk at each moment holds of what is seen
pub seen_laws : {D : Type 0} (view : D → DiskView) → ((d : D) → (view d).honest → IsDisk (view d))
    → (disk : D) (lost : Option (Snapshot D)) → (seen_as view disk lost).honest → IsDisk (seen_as view disk lost)
seen_laws view laws disk None honest = laws disk honest
seen_laws view laws disk (Some before) honest = laws before.value honest
