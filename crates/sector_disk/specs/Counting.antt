-- A disk that counts the bytes that were written to the disk within.
use Rattle.std.specs.Prelude.{ℕ, ◌+◌, ◌-◌, ◌^◌, min}
use Rattle.sector_disk.specs.Disk.{DiskView}
use Rattle.sector_disk.specs.declared.counting.CountingDisk.{CountingDisk}

-- the disk within
abbrev pub inner_of : {D : Type 0} → CountingDisk D → D
inner_of disk = disk.inner

-- how many bytes were handed to its writes, up to the greatest number
abbrev pub written_to : {D : Type 0} → CountingDisk D → ℕ
written_to disk = disk.count

-- it is seen as the disk within
abbrev pub view_of : {D : Type 0} → (D → DiskView) → CountingDisk D → DiskView
view_of view disk = view (inner_of disk)

-- a device that failed is the one within
abbrev pub faults_of : {D : Type 0} → (D → ℕ) → CountingDisk D → ℕ
faults_of fault_count disk = fault_count (inner_of disk)

-- so many bytes more, up to the greatest number
abbrev pub counted : ℕ → ℕ → ℕ
counted count bytes = min (count + bytes) (2 ^ 64 - 1)
