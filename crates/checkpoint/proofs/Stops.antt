-- What a stop leaves of a disk that is being formatted.
use Rattle.std.proofs.Common.{◌≡◌, ◌⊎◌, inl, inr, ℕ, ◌+◌, ◌-◌, ◌*◌, ◌≤◌, false, List, length, take, drop, Result, refl, ◌∙◌, ap, subst, arith}
use Rattle.std.proofs.lemmas.Bool.{cases_Bool}
use Rattle.sector_disk.specs.declared.disk.Fault.{Fault}
use Rattle.sector_disk.specs.Disk.{DiskView, IsDisk, IsSameDisk, HasOneImage, IsWrite, MayDiffer}
use Rattle.sector_disk.specs.laws.Moments.{Run, started, writes}
use Rattle.sector_disk.specs.laws.Written.{same_part}
use Rattle.sector_disk.specs.laws.Moments.{leaves_weaker}
use Rattle.gate_journal.specs.Frames.{is_open}
use Rattle.checkpoint.proofs.Ranges.{later_same}
use Rattle.checkpoint.specs.Image.{sector_at}
use Rattle.checkpoint.specs.Formatting.{DiffersInGates, IsOldButForGates}
use Rattle.checkpoint.specs.FormatSteps.{HoldsFirst, IsClosed, IsBeingFormatted}

-- nothing was written yet
pub unchanged : (old : DiskView) {second : ℕ} (image : List ℕ) → old.may_leave image → IsOldButForGates old second image
unchanged old image left = (image, left, record { size = refl; between = refl; behind = refl })

module _ (second : ℕ) (second_is : 512 ≤ 512 * second) where
  gate_a_differs : (earlier image : List ℕ) → MayDiffer 0 512 earlier image → DiffersInGates second earlier image
  gate_a_differs earlier image differ = record {
    size = differ.size;
    between = ap (λ (l : List ℕ). take (512 * second - 512) l) differ.after;
    behind = later_same 512 (512 * second + 512) image earlier differ.after (omega (arith, second_is));
  }

  gate_b_differs : (earlier mid image : List ℕ) → DiffersInGates second earlier mid → MayDiffer (512 * second) 512 mid image → DiffersInGates second earlier image
  gate_b_differs earlier mid image was differ = record {
    size = differ.size ∙ was.size;
    between = same_part (512 * second) 512 (512 * second - 512) image mid differ.before (omega (arith, second_is)) ∙ was.between;
    behind = differ.after ∙ was.behind;
  }

  -- a write between the gates leaves them closed
  still_closed : (n : ℕ) (old image : List ℕ) → 512 + n ≤ 512 * second → IsClosed second old → MayDiffer 512 n old image → IsClosed second image
  still_closed n old image within was differ = record {
    gate_a = ap is_open differ.before ∙ was.gate_a;
    gate_b = ap (λ (l : List ℕ). is_open (take 512 l)) (later_same (512 + n) (512 * second) image old differ.after within) ∙ was.gate_b;
  }

  -- the gate of A torn open or shut over a segment that is there
  closed_or_holds : (segment old image : List ℕ) → is_open (sector_at second old) ≡ false → take (length segment) (drop 512 old) ≡ segment → MayDiffer 0 512 old image
      → IsClosed second image ⊎ HoldsFirst second segment image
  closed_or_holds segment old image shut there differ =
      let gate_b = ap (λ (l : List ℕ). is_open (take 512 l)) (later_same 512 (512 * second) image old differ.after second_is) ∙ shut in
      elim (cases_Bool (is_open (sector_at 0 image))) [
        | inl opened ↦ inr (record { gate_a = opened; gate_b = gate_b; behind = ap (λ (l : List ℕ). take (length segment) l) differ.after ∙ there })
        | inr closed ↦ inl (record { gate_a = closed; gate_b = gate_b })
      ]

-- the calls of an honest disk
module _ {D : Type 0} (view : D → DiskView) (laws : (disk : D) → (view disk).honest → IsDisk (view disk)) (old : D) (honest : (view old).honest) (second : ℕ) (segment : List ℕ)
    (before : 512 + length segment ≤ 512 * second) where
  abbrev First : List ℕ → Type 0
  First = IsOldButForGates (view old) second

  abbrev Any : List ℕ → Type 0
  Any = IsBeingFormatted (view old) second segment

  second_is : 512 ≤ 512 * second
  second_is = omega (arith, before)

  pub gate_a_closed : (new : D) (gate : List ℕ) (result : Result (Unit {0}) Fault) → length gate ≡ 512 → IsSameDisk (view old) (view new)
      → ((view old).honest → IsWrite (view old) (view new) 0 gate result) → Run (view old) (view new) First
  gate_a_closed new gate result whole same call =
      writes view laws (view old) old new First 0 gate result
      (started view laws old First honest (unchanged (view old))) same call
      (λ earlier image left differ. (earlier, left, gate_a_differs second second_is earlier image (subst (λ (n : ℕ). MayDiffer 0 n earlier image) whole differ)))

  pub gate_b_closed : (mid new : D) (gate : List ℕ) (result : Result (Unit {0}) Fault) → length gate ≡ 512 → Run (view old) (view mid) First → IsSameDisk (view mid) (view new)
      → ((view mid).honest → IsWrite (view mid) (view new) (512 * second) gate result) → Run (view old) (view new) First
  gate_b_closed mid new gate result whole run same call =
      writes view laws (view old) mid new First (512 * second) gate result run same call
      (λ earlier image left differ.
      let was = run.now earlier left in
      (was.0, was.1, gate_b_differs second second_is was.0 earlier image was.2 (subst (λ (n : ℕ). MayDiffer (512 * second) n earlier image) whole differ)))

  pub any_of : {mid : DiskView} → Run (view old) mid First → Run (view old) mid Any
  any_of run = record { honest = run.honest; disk = run.disk; now = λ image left. inl (run.now image left); leaves = leaves_weaker Any (λ image is. inl is) run.leaves }

  module _ (mid new : D) (one : HasOneImage (view mid)) (sectors : (view mid).sectors ≡ (view old).sectors) (run : Run (view old) (view mid) Any) (same : IsSameDisk (view mid) (view new)) where
    pub segment_written : (result : Result (Unit {0}) Fault) → IsClosed second (view mid).content → ((view mid).honest → IsWrite (view mid) (view new) 512 segment result)
        → Run (view old) (view new) Any
    segment_written result closed call =
        writes view laws (view old) mid new Any 512 segment result run same call
        (λ earlier image left differ.
        let there = subst (λ (l : List ℕ). MayDiffer 512 (length segment) l image) (one earlier left) differ in
        inr (there.size ∙ run.disk.size ∙ ap (λ (n : ℕ). 512 * n) sectors, inl (still_closed second second_is (length segment) (view mid).content image before closed there)))

    pub gate_a_opened : (gate : List ℕ) (result : Result (Unit {0}) Fault) → length gate ≡ 512 → is_open (sector_at second (view mid).content) ≡ false
        → take (length segment) (drop 512 (view mid).content) ≡ segment → ((view mid).honest → IsWrite (view mid) (view new) 0 gate result) → Run (view old) (view new) Any
    gate_a_opened gate result whole shut behind call =
        writes view laws (view old) mid new Any 0 gate result run same call
        (λ earlier image left differ.
        let there = subst (λ (n : ℕ). MayDiffer 0 n (view mid).content image) whole (subst (λ (l : List ℕ). MayDiffer 0 (length gate) l image) (one earlier left) differ) in
        inr (there.size ∙ run.disk.size ∙ ap (λ (n : ℕ). 512 * n) sectors, closed_or_holds second second_is segment (view mid).content image shut behind there))
