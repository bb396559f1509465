-- Gates that are closed, one after the other: what a stop leaves of each step, and what stands behind it.
use Rattle.std.proofs.Common.{◌≡◌, inl, inr, ⊎_elim, ℕ, ◌+◌, ◌-◌, ◌*◌, ◌≤◌, ◌<◌, Bool, true, false, List, length, take, drop, replicate, Result, OnOk, refl, sym, ◌∙◌, ap, subst, arith}
use Rattle.std.specs.Prelude.{nat_lt, if◌then◌else◌}
use Rattle.std.proofs.lemmas.List.{drop-drop}
use Rattle.std.proofs.lemmas.Bool.{lt-ltb, le-ltb}
use Rattle.std.proofs.lemmas.Result.{on_ok_weaker}
use Rattle.sector_disk.specs.declared.disk.Fault.{Fault}
use Rattle.sector_disk.specs.Disk.{DiskView, IsDisk, HasOneImage, IsSameDisk, MayDiffer, Holds, IsUntouched, IsWrite, IsBarrier}
use Rattle.sector_disk.specs.Moments.{LeavesOnly}
use Rattle.sector_disk.specs.laws.Moments.{Run, started, reads, writes, settles, joined}
use Rattle.sector_disk.specs.laws.Written.{same_part, written_differs, written_here}
use Rattle.resized_disk.specs.Sectors.{sector_at, sectors_of, half, is_open}
use Rattle.disk_gates.specs.Closing.{rank_of, order_in, DiffersAt, IsShutting, IsClosing, AreApart, AreClosed}

-- ## One sector

pub same_image : (sector : ℕ) (image : List ℕ) → DiffersAt sector image image
same_image sector image = record { size = refl; before = refl; after = refl }

-- one over which zeros were written
pub cleared : (sector : ℕ) (was new : List ℕ) → 512 * sector + 512 ≤ length was → Holds was (512 * sector) (replicate 512 0) new
    → DiffersAt sector was new × (is_open (sector_at sector new) ≡ false)
cleared sector was new inside holds = (
  written_differs was (512 * sector) (replicate 512 0) new inside holds,
  ap is_open (written_here was (512 * sector) (replicate 512 0) new inside holds),
)

-- another sector stays
pub other_kept : (first second : ℕ) (was image : List ℕ) → AreApart first second → DiffersAt second was image → sector_at first image ≡ sector_at first was
other_kept first second was image apart differs = ⊎_elim
    (λ (before : first + 1 ≤ second). same_part (512 * second) (512 * first) 512 image was differs.before (omega (arith, before)))
    (λ (behind : second + 1 ≤ first).
    let more : 512 * second + 512 + (512 * first - (512 * second + 512)) ≡ 512 * first = omega (arith, behind) in
    let here : drop (512 * first) image ≡ drop (512 * first) was =
    ap (λ (m : ℕ). drop m image) (sym more) ∙ sym (drop-drop (512 * first - (512 * second + 512)) (512 * second + 512) image)
    ∙ ap (λ (l : List ℕ). drop (512 * first - (512 * second + 512)) l) differs.after
    ∙ drop-drop (512 * first - (512 * second + 512)) (512 * second + 512) was ∙ ap (λ (m : ℕ). drop m was) more in
    ap (λ (l : List ℕ). take 512 l) here)
    apart

module _ {D : Type 0} (view : D → DiskView) (laws : (disk : D) → (view disk).honest → IsDisk (view disk)) (old : D) (sector : ℕ) (honest : (view old).honest) (settled : HasOneImage (view old)) where
  -- before the first call
  pub begun : Run (view old) (view old) (DiffersAt sector (view old).content)
  begun = started view laws old (DiffersAt sector (view old).content) honest
      (λ image left. subst (DiffersAt sector (view old).content) (sym (settled image left)) (same_image sector (view old).content))

  -- it is written
  pub written : (mid : D) (bytes : List ℕ) (result : Result (Unit {0}) Fault) → length bytes ≡ 512 → IsSameDisk (view old) (view mid)
      → ((view old).honest → IsWrite (view old) (view mid) (512 * sector) bytes result) → Run (view old) (view mid) (DiffersAt sector (view old).content)
  written mid bytes result size same call = writes view laws (view old) old mid (DiffersAt sector (view old).content) (512 * sector) bytes result begun same call
      (λ earlier image left differs.
      subst (λ (was : List ℕ). DiffersAt sector was image) (settled earlier left) (subst (λ (n : ℕ). MayDiffer (512 * sector) n earlier image) size differs))

  -- only reads
  pub looked : (mid : D) → IsSameDisk (view old) (view mid) → ((view old).honest → IsUntouched (view old) (view mid)) → Run (view old) (view mid) (DiffersAt sector (view old).content)
  looked mid same call = reads view laws (view old) old mid (DiffersAt sector (view old).content) begun same call

  -- and what it was settled to it still is
  pub still : (mid : D) → ((view old).honest → IsUntouched (view old) (view mid)) → HasOneImage (view mid)
  still mid call image left = settled image (((call honest).images image).0 left) ∙ sym (call honest).content

  module _ (mid : D) (same : IsSameDisk (view old) (view mid)) (call : (view old).honest → IsUntouched (view old) (view mid)) where
    -- and then it is written
    pub leaves_behind : (new : D) → ((view mid).honest → HasOneImage (view mid) → LeavesOnly (view mid) (view new) (DiffersAt sector (view mid).content))
        → LeavesOnly (view old) (view new) (DiffersAt sector (view old).content)
    leaves_behind new leaves = joined (looked mid same call).leaves (leaves (same.honest.1 honest) (still mid call)) (DiffersAt sector (view old).content) (λ image is. is)
        (λ image is. subst (λ (l : List ℕ). DiffersAt sector l image) (call honest).content is)

    pub closed_behind : (new : D) (result : Result (Unit {0}) Fault) → sector < (view old).sectors
        → ((view mid).honest → OnOk result (Holds (view mid).content (512 * sector) (replicate 512 0) (view new).content × HasOneImage (view new)))
        → OnOk result ((is_open (sector_at sector (view new).content) ≡ false) × DiffersAt sector (view old).content (view new).content × HasOneImage (view new))
    closed_behind new result inside zeros = on_ok_weaker result
        (λ done.
        let size : length (view mid).content ≡ 512 * (view mid).sectors = (laws mid (same.honest.1 honest)).size in
        let room : 512 * sector + 512 ≤ length (view mid).content = omega (arith, size, same.sectors, inside) in
        let at = cleared sector (view mid).content (view new).content room done.0 in
        (at.1, subst (λ (l : List ℕ). DiffersAt sector l (view new).content) (call honest).content at.0, done.1))
        (zeros (same.honest.1 honest))

    -- or it was closed
    pub closed_before : is_open (sector_at sector (view old).content) ≡ false
        → (is_open (sector_at sector (view mid).content) ≡ false) × DiffersAt sector (view old).content (view mid).content × HasOneImage (view mid)
    closed_before was = (
      ap (λ (l : List ℕ). is_open (sector_at sector l)) (call honest).content ∙ was,
      subst (DiffersAt sector (view old).content) (sym (call honest).content) (same_image sector (view old).content),
      still mid call,
    )

-- ## Both

-- A is closed first, or B
module _ (image : List ℕ) (middle first second : ℕ) (middle_is : middle ≡ half image) (first_is : first ≡ rank_of (sector_at 1 image)) (second_is : second ≡ rank_of (sector_at (middle + 1) image)) where
  chosen : (b : Bool) → nat_lt first second ≡ b → (if b then (0, half image) else (half image, 0)) ≡ order_in image
  chosen b is =
      let there : second ≡ rank_of (sector_at (half image + 1) image) = second_is ∙ ap (λ (n : ℕ). rank_of (sector_at (n + 1) image)) middle_is in
      ap (λ (c : Bool). if c then (0, half image) else (half image, 0)) (sym is ∙ (λ i. nat_lt (first_is i) (there i)))

  pub first_chosen : first < second → (0, middle) ≡ order_in image
  first_chosen lt = ap (λ (n : ℕ). (0, n)) middle_is ∙ chosen true (lt-ltb first second lt)

  pub second_chosen : second ≤ first → (middle, 0) ≡ order_in image
  second_chosen le = ap (λ (n : ℕ). (n, 0)) middle_is ∙ chosen false (le-ltb first second le)

-- the gates are not of one sector
pub apart_in : (image : List ℕ) → 6 ≤ sectors_of image → AreApart (order_in image).0 (order_in image).1
apart_in image enough =
    elim (nat_lt (rank_of (sector_at 1 image)) (rank_of (sector_at (half image + 1) image)))
    as (λ (b : Bool). let o : ℕ × ℕ = if b then (0, half image) else (half image, 0) in AreApart o.0 o.1)
    [ true ↦ inl (omega (arith, enough)) | false ↦ inr (omega (arith, enough)) ]

module _ {D : Type 0} (view : D → DiskView) (laws : (disk : D) → (view disk).honest → IsDisk (view disk)) (old first : D) (honest : (view old).honest)
    (result : Result (Unit {0}) Fault) (same : IsSameDisk (view old) (view first)) (call : (view old).honest → IsBarrier (view old) (view first) result) where
  -- the disk is settled
  pub settling : Run (view old) (view first) (IsClosing (view old))
  settling = settles view laws (view old) old first (IsClosing (view old)) result (started view laws old (IsClosing (view old)) honest (λ image left. inl left)) same call

  module _ (mid : D) (read : IsSameDisk (view first) (view mid)) (reading : (view first).honest → IsUntouched (view first) (view mid)) where
    -- and read
    pub ordering : Run (view old) (view mid) (IsClosing (view old))
    ordering = reads view laws (view old) first mid (IsClosing (view old)) settling read reading

    abbrev there : (view first).honest
    there = same.honest.1 honest

    pub same_content : (view mid).content ≡ (view old).content
    same_content = (reading there).content ∙ (call honest).content

    pub order_same : (order : ℕ × ℕ) → order ≡ order_in (view first).content → order ≡ order_in (view old).content
    order_same order is = is ∙ ap order_in (call honest).content

    -- and both gates are closed
    pub closing : (order : ℕ × ℕ) → order ≡ order_in (view first).content → (new : D) → HasOneImage (view first)
        → ((view mid).honest → HasOneImage (view mid) → LeavesOnly (view mid) (view new) (IsShutting order.0 order.1 (view mid).content))
        → LeavesOnly (view old) (view new) (IsClosing (view old))
    closing order is new settled leaves = joined ordering.leaves (leaves ordering.honest (still view laws first 0 there settled mid reading)) (IsClosing (view old)) (λ image is. is)
        (λ image shut. inr
        (subst (λ (o : ℕ × ℕ). IsShutting o.0 o.1 (view old).content image) (order_same order is) (subst (λ (l : List ℕ). IsShutting order.0 order.1 l image) same_content shut)))

    pub both_closed : (order : ℕ × ℕ) → order ≡ order_in (view first).content → (new : D) → HasOneImage (view first) → 6 ≤ (view old).sectors → (done : Result (Unit {0}) Fault)
        → ((view mid).honest → HasOneImage (view mid) → AreApart order.0 order.1 → OnOk done (AreClosed order.0 order.1 (view new)))
        → OnOk done (AreClosed (order_in (view old).content).0 (order_in (view old).content).1 (view new))
    both_closed order is new settled enough done closes =
        let size : length (view old).content ≡ 512 * (view old).sectors = (laws old honest).size in
        let whole : 6 ≤ sectors_of (view old).content = omega (arith, size, enough) in
        let apart : AreApart order.0 order.1 = subst (λ (o : ℕ × ℕ). AreApart o.0 o.1) (sym (order_same order is)) (apart_in (view old).content whole) in
        subst (λ (o : ℕ × ℕ). OnOk done (AreClosed o.0 o.1 (view new))) (order_same order is) (closes ordering.honest (still view laws first 0 there settled mid reading) apart)
