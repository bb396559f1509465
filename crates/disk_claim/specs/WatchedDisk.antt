-- A disk that somebody may watch.
use Rattle.std.specs.Prelude.{◌≡◌, ℕ, ◌+◌, ◌-◌, ◌^◌, min, Option, Some, None, IfSome}
use Rattle.sector_disk.specs.Disk.{DiskView}
use Rattle.sector_disk.specs.declared.disk.Disk.{Ghosts}
use Rattle.disk_claim.specs.declared.volume.Volume.{Ghosts as VolumeGhosts}
use Rattle.disk_claim.specs.declared.holding.Holding.TheVariants.{Held}
use Rattle.disk_claim.specs.declared.watch.Watch.{Watch}
use Rattle.disk_claim.specs.declared.watch.Looked.{Looked}
use Rattle.disk_claim.specs.declared.watched_disk.WatchedDisk.{WatchedDisk}
use Rattle.disk_claim.specs.Sight.{seen_as}
use Rattle.disk_claim.specs.Volume.{VolumeView}
use Rattle.disk_claim.specs.Watching.{SeesOwn}

-- the disk within
abbrev pub inner_of : {D V : Type 0} {g : Ghosts D} {h : VolumeGhosts V} → WatchedDisk D V g h → D
inner_of disk = disk.disk

-- it is seen as the disk within, or, once its claim is lost, as that was before the barrier whose look did not show the own token
abbrev pub view_of : {D V : Type 0} {g : Ghosts D} {h : VolumeGhosts V} → (D → DiskView) → WatchedDisk D V g h → DiskView
view_of view disk = seen_as view disk.disk disk.lost

-- its own faults and those of the disk within
abbrev pub faults_of : {D V : Type 0} {g : Ghosts D} {h : VolumeGhosts V} → (D → ℕ) → WatchedDisk D V g h → ℕ
faults_of fault_count disk = min (fault_count disk.disk + disk.failed) (2 ^ 64 - 1)

-- who watches it looked behind the barrier, and the own token stood in the claim
pub record HasLookedWith {D V : Type 0} {g : Ghosts D} {h : VolumeGhosts V} (view : V → VolumeView) (before after : Watch V) (new : WatchedDisk D V g h) : Type 0 where
  pub watch : new.watch ≡ Some after
  pub looked : Looked D
  pub shown : new.looked ≡ Some looked
  pub behind : looked.behind.value ≡ new.disk
  pub own : SeesOwn view before after Held

-- if somebody watches, so it was
abbrev pub HasLooked : {D V : Type 0} {g : Ghosts D} {h : VolumeGhosts V} → (V → VolumeView) → WatchedDisk D V g h → WatchedDisk D V g h → Type 0
HasLooked view old new = IfSome old.watch (λ before. (after : Watch _) × HasLookedWith view before after new)

-- nobody has looked yet
pub record IsOver {D V : Type 0} {g : Ghosts D} {h : VolumeGhosts V} (disk : D) (watched : Option (Watch V)) (new : WatchedDisk D V g h) : Type 0 where
  pub inner : new.disk ≡ disk
  pub watch : new.watch ≡ watched
  pub whole : new.lost ≡ None
