-- What stands in the claim of a disk.
use Rattle.std.specs.Prelude.{◌≡◌, ℕ, ◌*◌, List, Some}
use Rattle.sector_disk.specs.Disk.{DiskView, Holds, HasOneImage}
use Rattle.disk_claim.specs.Place.{claim_sector}

-- these bytes stand in the claim of an honest disk, durably, and all else is as it was
abbrev pub HasClaim : DiskView → List ℕ → DiskView → Type 0
HasClaim old claim new =
    old.honest → (sector : ℕ) → claim_sector old.sectors ≡ Some sector → Holds old.content (512 * sector) claim new.content × HasOneImage new
