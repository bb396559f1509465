-- What formatting a disk says, with the empty table or with a whole one, and what a stop may leave of a disk that is being formatted.
use Rattle.std.specs.Prelude.{◌≡◌, ◌⊎◌, ℕ, ◌+◌, ◌-◌, ◌*◌, ◌/◌, ◌<◌, ◌≤◌, false, List, length, take, drop, Result, Err}
use Rattle.sector_disk.specs.Disk.{DiskView, HasOneImage}
use Rattle.sector_disk.specs.Moments.{LeavesOnly}
use Rattle.retry_rules.specs.declared.settings.Settings.{Settings}
use Rattle.invoke_records.specs.declared.snapshot.Snapshot.{Snapshot}
use Rattle.async_core.specs.Rules.{empty_table}
use Rattle.checkpoint.specs.declared.error.FormatError.{FormatError}
use Rattle.checkpoint.specs.declared.error.FormatError.TheVariants.{TooSmall}
use Rattle.checkpoint.specs.declared.error.SeedError.{SeedError}
use Rattle.checkpoint.specs.declared.error.SeedError.TheVariants as seed_error
use Rattle.checkpoint.specs.declared.error.OpenError.TheVariants.{NotFormatted}
use Rattle.checkpoint.specs.Image.{least_sectors, recovered}
use Rattle.checkpoint.specs.Live.{RecoversTo, may_stand}

-- the disk has fewer sectors than these settings need
abbrev pub IsTooSmall : DiskView → Settings → Type 0
IsTooSmall disk s = disk.sectors < least_sectors s

-- what `TooSmall` says: the least number that the settings need, and that the disk has fewer
abbrev pub TellsLeast : DiskView → Settings → Result (Unit {0}) FormatError → Type 0
TellsLeast disk s result = (least : ℕ) → result ≡ Err (TooSmall least) → (least ≡ least_sectors s) × IsTooSmall disk s

-- the disk has one image, which recovers to these settings and this table
abbrev pub IsSeeded : DiskView → Settings → Snapshot → Type 0
IsSeeded disk s table = HasOneImage disk × RecoversTo s table disk.content

-- two images that differ in the sectors of the gates alone, where segment B begins at this sector
pub record DiffersInGates (second : ℕ) (earlier image : List ℕ) : Type 0 where
  pub size : length image ≡ length earlier
  pub between : take (512 * second - 512) (drop 512 image) ≡ take (512 * second - 512) (drop 512 earlier)
  pub behind : drop (512 * second + 512) image ≡ drop (512 * second + 512) earlier

-- an image from before the call, but for its gates
abbrev pub IsOldButForGates : DiskView → ℕ → List ℕ → Type 0
IsOldButForGates old second image = (earlier : List ℕ) × old.may_leave earlier × DiffersInGates second earlier image

-- no formatted disk, or one that recovers to these settings and this whole table
abbrev pub IsNoneOrWhole : Settings → Snapshot → List ℕ → Type 0
IsNoneOrWhole s table image = (recovered image ≡ Err NotFormatted) ⊎ RecoversTo s table image

-- while a disk is formatted with a table: the old image but for its gates, no formatted disk, or one that recovers to the table
abbrev pub IsSeeding : DiskView → Settings → Snapshot → List ℕ → Type 0
IsSeeding old s table image = IsOldButForGates old (old.sectors / 2) image ⊎ IsNoneOrWhole s table image

-- what a stop leaves at any moment while an honest disk is formatted with a table
abbrev pub LeavesSeeding : DiskView → DiskView → Settings → Snapshot → Type 0
LeavesSeeding old new s table = old.honest → LeavesOnly old new (IsSeeding old s table)

-- ## With the empty table

-- the disk has one image, which recovers to these settings and the empty table
abbrev pub IsFormatted : DiskView → Settings → Type 0
IsFormatted disk s = IsSeeded disk s (empty_table s)

-- while a disk is formatted: the old image but for its gates, no formatted disk, or one that recovers to the empty table
abbrev pub IsFormatting : DiskView → Settings → List ℕ → Type 0
IsFormatting old s image = IsSeeding old s (empty_table s) image

-- what a stop leaves at any moment while an honest disk is formatted
abbrev pub LeavesFormatting : DiskView → DiskView → Settings → Type 0
LeavesFormatting old new s = LeavesSeeding old new s (empty_table s)

-- ## With a whole table

-- what `TooSmall` says of a disk that was to be seeded: the same
abbrev pub TellsLeastToSeed : DiskView → Settings → Result (Unit {0}) SeedError → Type 0
TellsLeastToSeed disk s result =
    (least : ℕ) → result ≡ Err (seed_error.TooSmall least) → (least ≡ least_sectors s) × IsTooSmall disk s

-- the disk is large enough, and the table may not stand on it
abbrev pub IsBadToSeed : DiskView → Settings → Snapshot → Type 0
IsBadToSeed disk s table = (least_sectors s ≤ disk.sectors) × (may_stand s table ≡ false)

-- what a stop leaves at any moment while an honest disk is formatted with a table of which a read gives no formatted disk: an image
-- from before the call, no formatted disk, or one that recovers to the whole table
abbrev pub LeavesOldOrWhole : DiskView → DiskView → Settings → Snapshot → Type 0
LeavesOldOrWhole old new s table =
    old.honest → recovered old.content ≡ Err NotFormatted
    → LeavesOnly old new (λ image. old.may_leave image ⊎ IsNoneOrWhole s table image)

-- no image of the disk is one of a formatted disk
abbrev pub IsUnformatted : DiskView → Type 0
IsUnformatted disk = (image : List ℕ) → disk.may_leave image → recovered image ≡ Err NotFormatted

-- what a stop leaves then of such a disk: no formatted disk, or one that recovers to the whole table
abbrev pub LeavesNoneOrWhole : DiskView → DiskView → Settings → Snapshot → Type 0
LeavesNoneOrWhole old new s table = old.honest → IsUnformatted old → LeavesOnly old new (IsNoneOrWhole s table)
