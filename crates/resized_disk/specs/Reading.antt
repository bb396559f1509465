-- What calls that only read say.
use Rattle.sector_disk.specs.Disk.{DiskView, IsSameDisk, IsUntouched}

-- reads alone: the disk is as it was
pub record OnlyReads (old new : DiskView) : Type 0 where
  pub same : IsSameDisk old new
  pub untouched : old.honest → IsUntouched old new
