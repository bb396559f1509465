-- How a disk is seen that a guard may shut.
use Rattle.std.specs.Prelude.{ℕ, ◌+◌, ◌-◌, ◌^◌, min}
use Rattle.sector_disk.specs.Disk.{DiskView}
use Rattle.disk_guard.specs.declared.guarded_disk.GuardedDisk.{GuardedDisk}

-- as the disk within
abbrev pub view_of : {D : Type 0} → (D → DiskView) → GuardedDisk D → DiskView
view_of view disk = view disk.inner

-- its own faults and those of the disk within
abbrev pub faults_of : {D : Type 0} → (D → ℕ) → GuardedDisk D → ℕ
faults_of fault_count disk = min (fault_count disk.inner + disk.failed) (2 ^ 64 - 1)

-- one more, up to the greatest number
abbrev pub counted : ℕ → ℕ
counted count = min (count + 1) (2 ^ 64 - 1)
