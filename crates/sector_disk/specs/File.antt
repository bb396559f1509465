-- A disk over a file: its bytes are the file's, one sector behind the other.
use Rattle.std.specs.Prelude.{◌≡◌, ◌≢◌, ℕ, ◌*◌, ◌%◌, length}
use Rattle.sector_disk.specs.Disk.{DiskView, IsDisk, IsUntouched}
use Rattle.sector_disk.specs.RandomAccess.{FileView, seen_as, IsFile}
use Rattle.sector_disk.specs.declared.random_access.RandomAccessFile.{Ghosts}
use Rattle.sector_disk.specs.declared.file.FileDisk.{FileDisk}
use Rattle.sector_disk.specs.declared.file.FileError.{FileError}
use Rattle.sector_disk.specs.declared.file.FileError.TheVariants.{NotWhole, Fault}

-- the file that it lies in
abbrev pub file_of : {F : Type 0} {g : Ghosts F} → FileDisk F g → F
file_of disk = disk.file

-- how many sectors it has
abbrev pub sectors_of : {F : Type 0} {g : Ghosts F} → FileDisk F g → ℕ
sectors_of disk = disk.sectors

-- how often a call of the file has failed; the count stays at its greatest value
abbrev pub faults_of : {F : Type 0} {g : Ghosts F} → FileDisk F g → ℕ
faults_of disk = disk.faults

-- it is seen as its file, of so many sectors, and is honest where the file is
abbrev pub view_of : {F : Type 0} {g : Ghosts F} → (F → FileView) → FileDisk F g → DiskView
view_of view disk = seen_as (sectors_of disk) (view (file_of disk))

-- over an honest file lies an honest disk, of just the file's bytes, none of which has changed
pub record IsOpened (file : FileView) (disk : DiskView) : Type 0 where
  pub honest : disk.honest
  pub sectors : 512 * disk.sectors ≡ length file.content
  pub untouched : IsUntouched (seen_as disk.sectors file) disk

-- why no disk lies over an honest file: its size is no multiple of 512, or it does not tell it
abbrev pub IsNoDisk : FileView → FileError → Type 0
IsNoDisk file NotWhole = length file.content % 512 ≢ 0
IsNoDisk file Fault = Unit {0}
IsNoDisk file _ = ⊥

-- a disk over an honest file is as a disk has to be
pub disk_laws :
    {F : Type 0} {g : Ghosts F} (disk : FileDisk F g)
    → (g.view disk.file).honest → IsFile (g.view disk.file) → IsDisk (view_of g.view disk)
disk_laws disk honest file = record {
  size = disk.whole honest;
  reads_an_image = file.reads_an_image;
  counts_now = file.counts_now;
  only_now = file.only_now;
}
