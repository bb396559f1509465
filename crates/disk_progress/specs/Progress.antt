-- A disk that tells how many bytes its reads and its writes were handed.
use Rattle.std.specs.Prelude.{ℕ}
use Rattle.sector_disk.specs.Disk.{DiskView}
use Rattle.disk_progress.specs.declared.progress_disk.ProgressDisk.{ProgressDisk}

-- the disk within
abbrev pub inner_of : {D L : Type 0} → ProgressDisk D L → D
inner_of disk = disk.inner

-- how many bytes its reads were handed, up to the greatest number
abbrev pub read_of : {D L : Type 0} → ProgressDisk D L → ℕ
read_of disk = disk.read

-- how many its writes were handed
abbrev pub written_of : {D L : Type 0} → ProgressDisk D L → ℕ
written_of disk = disk.written

-- it is seen as the disk within
abbrev pub view_of : {D L : Type 0} → (D → DiskView) → ProgressDisk D L → DiskView
view_of view disk = view (inner_of disk)

-- a device that failed is the one within
abbrev pub faults_of : {D L : Type 0} → (D → ℕ) → ProgressDisk D L → ℕ
faults_of fault_count disk = fault_count (inner_of disk)
