-- What a claimed disk shows, and one whose claim is given up.
use Rattle.std.proofs.Common.{◌≡◌, ℕ, false, List, Option, Some, None, sym, subst}
use Rattle.std.specs.Prelude.{is_some, replicate, IfSome}
use Rattle.std.specs.declared.snapshot.Snapshot.{Snapshot}
use Rattle.std.proofs.lemmas.Bool.{true≢false}
use Rattle.sector_disk.specs.Disk.{DiskView}
use Rattle.sector_disk.specs.declared.disk.Disk.{Ghosts}
use Rattle.disk_claim.specs.Claiming.{Claims, GivesUp}
use Rattle.disk_claim.specs.Putting.{HasClaim}
use Rattle.disk_claim.specs.Sight.{seen_as}
use Rattle.disk_claim.specs.Token.{claim_of}
use Rattle.disk_claim.specs.Volume.{VolumeView}
use Rattle.disk_claim.specs.Watching.{SeesOwn}
use Rattle.disk_claim.specs.WatchedDisk.{view_of, IsOver, HasLooked, HasLookedWith}
use Rattle.disk_claim.specs.declared.holding.Holding.TheVariants.{Held}
use Rattle.disk_claim.specs.declared.token.Token.{Token}
use Rattle.disk_claim.specs.declared.volume.Volume.{Ghosts as VolumeGhosts}
use Rattle.disk_claim.specs.declared.watch.Looked.{Looked}
use Rattle.disk_claim.specs.declared.watch.Watch.{Watch}
use Rattle.disk_claim.specs.declared.watched_disk.WatchedDisk.{WatchedDisk}

-- a claim that was put into the disk within shows in the watched one
pub claimed_over : {D V : Type 0} {g : Ghosts D} {h : VolumeGhosts V} (view : D → DiskView) (old disk : D) (own told : Token)
    (watched : Option (Watch V)) (new : WatchedDisk D V g h)
    → told ≡ own → HasClaim (view old) (claim_of told.bytes) (view disk) → IsOver disk watched new → Claims view old own new
claimed_over view old disk own told watched new same has over =
    let within : HasClaim (view old) (claim_of told.bytes) (view new.disk) =
    subst (λ d. HasClaim (view old) (claim_of told.bytes) (view d)) (sym over.inner) has in
    let shown : HasClaim (view old) (claim_of told.bytes) (view_of view new) =
    subst (λ lost. HasClaim (view old) (claim_of told.bytes) (seen_as view new.disk lost)) (sym over.whole) within in
    subst (λ (t : Token). HasClaim (view old) (claim_of t.bytes) (view_of view new)) same shown

-- what is not lost is seen as the disk within
seen_within : {D : Type 0} (view : D → DiskView) (disk : D) (lost : Option (Snapshot D)) (claim : List ℕ) (new : DiskView)
    → is_some lost ≡ false → HasClaim (view disk) claim new → HasClaim (seen_as view disk lost) claim new
seen_within view disk None claim new none has = has
seen_within view disk (Some before) claim new none has = absurd (true≢false none)

-- a claim of zeros in the disk within is one that was given up
pub given_up : {D V : Type 0} {g : Ghosts D} {h : VolumeGhosts V} (view : D → DiskView) (old : WatchedDisk D V g h) (new : D)
    → is_some old.lost ≡ false → HasClaim (view old.disk) (claim_of (replicate 16 0)) (view new) → GivesUp view old new
given_up view old new none has = seen_within view old.disk old.lost (claim_of (replicate 16 0)) (view new) none has

-- a look behind the barrier is one with which the barrier succeeded
pub looked_behind : {D V : Type 0} {g : Ghosts D} {h : VolumeGhosts V} (view : V → VolumeView) (old new : WatchedDisk D V g h)
    (before after : Watch V) (looked : Looked D)
    → old.watch ≡ Some before → new.watch ≡ Some after → new.looked ≡ Some looked → looked.behind.value ≡ new.disk
    → SeesOwn view before after Held → HasLooked view old new
looked_behind view old new before after looked was is shown behind own =
    subst (λ (w : Option (Watch _)). IfSome w (λ b. (a : Watch _) × HasLookedWith view b a new)) (sym was)
    (after, record { watch = is; looked = looked; shown = shown; behind = behind; own = own })
