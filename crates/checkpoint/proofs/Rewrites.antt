-- Sectors that are written and settled, one after another.
use Rattle.std.proofs.Common.{◌≡◌, inl, inr, ⊎_elim, ℕ, ◌+◌, ◌*◌, ◌≤◌, Bool, true, false, List, length, take, drop, Result, OnOk, refl, sym, ◌∙◌, ap, subst, arith}
use Rattle.std.proofs.lemmas.Result.{on_ok_weaker}
use Rattle.sector_disk.specs.declared.disk.Fault.{Fault}
use Rattle.sector_disk.specs.Disk.{DiskView, IsDisk, HasOneImage, IsSameDisk, IsBarrier, Holds}
use Rattle.sector_disk.specs.Moments.{LeavesOnly}
use Rattle.sector_disk.specs.laws.Moments.{Run, started, settles}
use Rattle.sector_disk.specs.laws.Written.{same_part, written_size, written_front, written_here, written_behind}
use Rattle.gate_journal.specs.Frames.{is_open}
use Rattle.checkpoint.proofs.Ranges.{later_same}
use Rattle.checkpoint.specs.Image.{sector_at}
use Rattle.checkpoint.specs.Pieces.{DiffersWithin, IsWithin, StandsFrom}
use Rattle.checkpoint.specs.SwitchSteps.{IsRewritten, IsBeingClosed, IsSwitching, IsSwitched}

-- ## Images that differ in some sectors

pub nothing_differs : (first last : ℕ) (image : List ℕ) → DiffersWithin first last image image
nothing_differs first last image = record { size = refl; before = refl; behind = refl }

-- in more sectors
pub wider : (first last low high : ℕ) (was image : List ℕ) → low ≤ first → last ≤ high → DiffersWithin first last was image → DiffersWithin low high was image
wider first last low high was image le ge differs = record {
  size = differs.size;
  before = same_part (512 * first) 0 (512 * low) image was differs.before (omega (arith, le));
  behind = later_same (512 * last) (512 * high) image was differs.behind (omega (arith, ge));
}

-- once and again
pub differs_more : (first last : ℕ) (a b c : List ℕ) → DiffersWithin first last a b → DiffersWithin first last b c → DiffersWithin first last a c
differs_more first last a b c one two = record { size = two.size ∙ one.size; before = two.before ∙ one.before; behind = two.behind ∙ one.behind }

-- the sector in front of those that differ
pub gate_kept : (base last : ℕ) (was image : List ℕ) → DiffersWithin (base + 1) last was image → sector_at base image ≡ sector_at base was
gate_kept base last was image differs = same_part (512 * (base + 1)) (512 * base) 512 image was differs.before (omega arith)

-- the bytes behind the one that does
pub stands_kept : (base : ℕ) (text was image : List ℕ) → DiffersWithin base (base + 1) was image → StandsFrom (base + 1) text was → StandsFrom (base + 1) text image
stands_kept base text was image differs stands = ap (λ (l : List ℕ). take (length text) l) differs.behind ∙ stands

-- a gate that was written
pub gate_written : (sector : ℕ) (gate content new : List ℕ) → length gate ≡ 512 → 512 * sector + 512 ≤ length content → Holds content (512 * sector) gate new
    → DiffersWithin sector (sector + 1) content new × (sector_at sector new ≡ gate)
gate_written sector gate content new size inside holds =
    let within : 512 * sector + length gate ≤ length content = omega (arith, size, inside) in (
      record {
        size = written_size content (512 * sector) gate new within holds;
        before = written_front content (512 * sector) gate new within holds;
        behind = written_behind content (512 * sector) gate new within holds (512 * (sector + 1)) (omega (arith, size));
      },
      ap (λ (n : ℕ). take n (drop (512 * sector) new)) (sym size) ∙ written_here content (512 * sector) gate new within holds,
    )

-- ## Calls of an honest disk

pub one_within : (disk : DiskView) (first last : ℕ) → HasOneImage disk → IsWithin first last disk.content disk
one_within disk first last settled image left = subst (λ (l : List ℕ). DiffersWithin first last disk.content l) (sym (settled image left)) (nothing_differs first last disk.content)

module _ {D : Type 0} (view : D → DiskView) (laws : (disk : D) → (view disk).honest → IsDisk (view disk)) (old mid new : D) (honest : (view old).honest) (first last : ℕ)
    (same : IsSameDisk (view old) (view mid)) (within : LeavesOnly (view old) (view mid) (DiffersWithin first last (view old).content) × IsWithin first last (view old).content (view mid)) where
  abbrev there : (view mid).honest
  there = same.honest.1 honest

  run : Run (view old) (view mid) (DiffersWithin first last (view old).content)
  run = record { honest = there; disk = laws mid there; now = within.1; leaves = within.0 }

  module _ (result : Result (Unit {0}) Fault) (same_new : IsSameDisk (view mid) (view new)) (call : (view mid).honest → IsBarrier (view mid) (view new) result) where
    pub leaves_settled : LeavesOnly (view old) (view new) (DiffersWithin first last (view old).content)
    leaves_settled = (settles view laws (view old) mid new _ result run same_new call).leaves

    pub rewritten : (P : List ℕ → Type 0) → P (view mid).content → OnOk result (IsRewritten (view old) (view new) first last × P (view new).content)
    rewritten P is =
        let barrier = call there in
        on_ok_weaker result
        (λ done. (
          record { settled = done; differs = subst (DiffersWithin first last (view old).content) (sym barrier.content) (within.1 (view mid).content (laws mid there).reads_an_image) },
          subst P (sym barrier.content) is,
        ))
        barrier.done

-- nothing was called
pub leaves_one : {D : Type 0} (view : D → DiskView) (laws : (disk : D) → (view disk).honest → IsDisk (view disk)) (disk : D) (P : List ℕ → Type 0) → (view disk).honest → HasOneImage (view disk) → P (view disk).content
    → LeavesOnly (view disk) (view disk) P
leaves_one view laws disk P honest settled is = (started view laws disk P honest (λ image left. subst P (sym (settled image left)) is)).leaves

-- ## A segment that is made the live one

module _ (base sectors : ℕ) (enough : 2 ≤ sectors) (was_open : Bool) (text was : List ℕ) where
  pub closing : (image : List ℕ) → IsBeingClosed base was_open was image → IsSwitching base sectors was_open text was image
  closing image is = ⊎_elim
      (λ opened. inl (opened, is.0))
      (λ shut. inr (wider base (base + 1) base (base + sectors) was image (omega arith) (omega (arith, enough)) is.0, inl shut))
      is.1

  module _ (closed : List ℕ) (differs : DiffersWithin base (base + 1) was closed) (shut : is_open (sector_at base closed) ≡ false) where
    pub writing : (image : List ℕ) → DiffersWithin (base + 1) (base + sectors) closed image → IsSwitching base sectors was_open text was image
    writing image is = inr (
      differs_more base (base + sectors) was closed image
          (wider base (base + 1) base (base + sectors) was closed (omega arith) (omega (arith, enough)) differs)
          (wider (base + 1) (base + sectors) base (base + sectors) closed image (omega arith) (omega arith) is),
      inl (ap is_open (gate_kept base (base + sectors) closed image is) ∙ shut),
    )

    module _ (written : List ℕ) (more : DiffersWithin (base + 1) (base + sectors) closed written) (stands : StandsFrom (base + 1) text written) where
      differs_all : (image : List ℕ) → DiffersWithin base (base + 1) written image → DiffersWithin base (base + sectors) was image
      differs_all image is =
          differs_more base (base + sectors) was closed image
          (wider base (base + 1) base (base + sectors) was closed (omega arith) (omega (arith, enough)) differs)
          (differs_more base (base + sectors) closed written image
          (wider (base + 1) (base + sectors) base (base + sectors) closed written (omega arith) (omega arith) more)
          (wider base (base + 1) base (base + sectors) written image (omega arith) (omega (arith, enough)) is))

      pub opening : (image : List ℕ) → DiffersWithin base (base + 1) written image → IsSwitching base sectors was_open text was image
      opening image is = inr (differs_all image is, inr (stands_kept base text written image is stands))

      pub switched : (image : List ℕ) → DiffersWithin base (base + 1) written image → is_open (sector_at base image) ≡ true → IsSwitched base sectors text was image
      switched image is gate = record { differs = differs_all image is; gate = gate; stands = stands_kept base text written image is stands }
