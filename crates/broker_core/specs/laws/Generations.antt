-- The generation that a disk tells is that of what was opened.
use Rattle.std.proofs.Common.{◌≡◌, ◌⊎◌, inl, inr, ℕ, zero, suc, ◌≤◌, Bool, true, false, List, length, Result, Ok, Err, refl, sym, subst, ◌∙◌, arith}
use Rattle.std.specs.Result.{IsOkAnd}
use Rattle.sector_disk.specs.Disk.{DiskView}
use Rattle.sector_disk.specs.declared.disk.Disk.{Ghosts}
use Rattle.invoke_records.specs.declared.snapshot.Snapshot.{Snapshot}
use Rattle.invoke_records.specs.declared.command.Command.{Command}
use Rattle.invoke_records.specs.declared.version.Version.{Version}
use Rattle.invoke_records.specs.Spelling.{commands_text}
use Rattle.checkpoint.specs.declared.opened.Opened.{Opened}
use Rattle.checkpoint.specs.declared.error.OpenError.{OpenError}
use Rattle.checkpoint.specs.Image.{DiskImage, HasGeneration}
use Rattle.checkpoint.specs.Live.{fits, generation_of, IsLiveIn}
use Rattle.broker_core.specs.declared.broker.Broker.{Broker}
use Rattle.broker_core.specs.Broker.{disk_of, pending_of, is_broken, opened_of, Stands}
use Rattle.broker_core.specs.Refusals.{NeedsSwitch, NeedsNoSwitch}

-- a live disk has the generation of what was opened
pub live_generation :
    (version : Version) (disk : DiskView) (opened : Opened) (table : Snapshot) → IsLiveIn version disk opened table
    → HasGeneration (generation_of opened) disk.content
live_generation version disk opened table live =
    subst (λ (r : Result DiskImage OpenError). IsOkAnd r (λ image. image.live.generation ≡ generation_of opened)) (sym live.reads)
    live.generation

-- and so has that of a broker that is not broken
pub broker_generation :
    {D : Type 0} {g : Ghosts D} (view : D → DiskView) (broker : Broker D g) (history : List Command) → Stands view broker history
    → is_broken broker ≡ false → (view (disk_of broker)).honest
    → HasGeneration (generation_of (opened_of broker)) (view (disk_of broker)).content
broker_generation view broker history stands whole honest =
    live_generation _ (view (disk_of broker)) (opened_of broker) _ (stands.live whole honest)

one_of_both :
    (read : Result DiskImage OpenError) (a b : ℕ) → IsOkAnd read (λ image. image.live.generation ≡ a)
    → IsOkAnd read (λ image. image.live.generation ≡ b) → a ≡ b
one_of_both (Err why) a b is too = absurd is
one_of_both (Ok image) a b is too = sym is ∙ too

-- an image has one
pub one_generation : (a b : ℕ) (image : List ℕ) → HasGeneration a image → HasGeneration b image → a ≡ b
one_generation a b image is too = one_of_both _ a b is too

needs_by : (pending : ℕ) (room : Bool) → ((1 ≤ pending) × (room ≡ false)) ⊎ ((pending ≡ 0) ⊎ (room ≡ true))
needs_by zero room = inr (inl refl)
needs_by (suc pending) true = inr (inr refl)
needs_by (suc pending) false = inl (omega arith, refl)

-- a commit needs a switch, or none
pub needs_or_not : {D : Type 0} {g : Ghosts D} (broker : Broker D g) → NeedsSwitch broker ⊎ NeedsNoSwitch broker
needs_or_not broker = needs_by (length (pending_of broker)) (fits (opened_of broker) (length (commands_text (pending_of broker))))
