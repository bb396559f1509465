-- Claiming a disk, and giving the claim up.
use Rattle.std.specs.Prelude.{◌≡◌, replicate, Some}
use Rattle.sector_disk.specs.Disk.{DiskView}
use Rattle.sector_disk.specs.declared.disk.Disk.{Ghosts}
use Rattle.disk_claim.specs.declared.volume.Volume.{Ghosts as VolumeGhosts}
use Rattle.disk_claim.specs.Putting.{HasClaim}
use Rattle.disk_claim.specs.Token.{claim_of}
use Rattle.disk_claim.specs.Volume.{VolumeView}
use Rattle.disk_claim.specs.Watching.{IsSameWatch, KeepsNothing, Shows}
use Rattle.disk_claim.specs.WatchedDisk.{view_of}
use Rattle.disk_claim.specs.declared.token.Token.{Token}
use Rattle.disk_claim.specs.declared.watch.Watch.{Watch}
use Rattle.disk_claim.specs.declared.watched_disk.WatchedDisk.{WatchedDisk}

-- this token stands in the claim of the disk
abbrev pub Claims : {D V : Type 0} {g : Ghosts D} {h : VolumeGhosts V} → (D → DiskView) → D → Token → WatchedDisk D V g h → Type 0
Claims view old own new = HasClaim (view old) (claim_of own.bytes) (view_of view new)

-- it is watched for the same token, and what the machine kept of an honest volume is dropped
abbrev pub HasForgotten : {D V : Type 0} {g : Ghosts D} {h : VolumeGhosts V} → (V → VolumeView) → Watch V → WatchedDisk D V g h → Type 0
HasForgotten view old new = (watch : Watch _) × (new.watch ≡ Some watch) × (watch.own ≡ old.own) × KeepsNothing view old watch

-- this token stood in the claim on the device of an honest volume when it was looked at
abbrev pub HasFound : {V : Type 0} → (V → VolumeView) → Watch V → Token → Type 0
HasFound view old found = (seen : Watch _) × IsSameWatch view old seen × Shows view old seen found

-- nobody stands in the claim of the disk within
abbrev pub GivesUp : {D V : Type 0} {g : Ghosts D} {h : VolumeGhosts V} → (D → DiskView) → WatchedDisk D V g h → D → Type 0
GivesUp view old new = HasClaim (view_of view old) (claim_of (replicate 16 0)) (view new)
