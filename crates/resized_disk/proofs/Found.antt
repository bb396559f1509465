-- What is found behind the frames of the one open segment is what is told.
use Rattle.std.proofs.Common.{◌≡◌, inl, inr, ℕ, ◌+◌, ◌-◌, ◌*◌, ◌^◌, ◌<◌, ◌≤◌, nat_lt, min, Bool, true, false, ◌&&◌, List, length, Option, None, Some, refl, sym, ◌∙◌, ap, arith}
use Rattle.std.specs.Prelude.{if◌then◌else◌}
use Rattle.std.proofs.lemmas.Bool.{cases_lt, lt-ltb, le-ltb, and_right}
use Rattle.resized_disk.specs.declared.told.Resized.{Resized}
use Rattle.resized_disk.specs.declared.told.Resized.TheVariants.{Displaced, Cut}
use Rattle.resized_disk.specs.Sectors.{sector_at, sectors_of, half, is_open, is_header}
use Rattle.resized_disk.specs.Frames.{frames_end}
use Rattle.resized_disk.specs.Resized.{lone_base, lone_open, lone_segment, with_header, is_elsewhere, leads_on, stands_beside, stands_displaced, ends_open, is_cut_at, NoneDisplaced, TellsResized}
use Rattle.resized_disk.specs.Pieces.{TellsFirst, passes, TellsCut}

-- where one is open alone
pub open_there : (image : List ℕ) (middle : ℕ) (a b : Bool) → 6 ≤ sectors_of image → middle ≡ half image → a ≡ is_open (sector_at 0 image) → b ≡ is_open (sector_at middle image)
    → lone_base middle a b ≡ lone_open image
open_there image middle a b enough middle_is a_is b_is =
    let b_there : b ≡ is_open (sector_at (half image) image) = b_is ∙ ap (λ (n : ℕ). is_open (sector_at n image)) middle_is in
    (λ i. lone_base (middle_is i) (a_is i) (b_there i))
    ∙ ap (λ (c : Bool). if c then None else lone_base (half image) (is_open (sector_at 0 image)) (is_open (sector_at (half image) image))) (sym (le-ltb (sectors_of image) 6 enough))

-- none is open alone, or that has no header
pub none_without : (image : List ℕ) → lone_segment image ≡ None → TellsResized image None
unfolding stands_displaced is_cut_at
none_without image none = (
  λ sector. ap (λ (base : Option ℕ). stands_beside base sector image) none,
  λ sector. ap (λ (base : Option ℕ). ends_open base sector image) none,
)

-- a disk that is too small for two segments
pub none_on_small : (image : List ℕ) → sectors_of image < 6 → TellsResized image None
none_on_small image small = none_without image
    (ap (λ (c : Bool). with_header image (if c then None else lone_base (half image) (is_open (sector_at 0 image)) (is_open (sector_at (half image) image)))) (lt-ltb (sectors_of image) 6 small))

-- no segment is open alone
pub none_alone : (image : List ℕ) → None ≡ lone_open image → TellsResized image None
none_alone image none = none_without image (ap (λ (base : Option ℕ). with_header image base) (sym none))

header_tells : (image : List ℕ) (base : ℕ) (has : Bool) → lone_open image ≡ Some base → is_header (sector_at (base + 1) image) ≡ has → lone_segment image ≡ (if has then Some base else None)
header_tells image base has there is = ap (λ (b : Option ℕ). with_header image b) there ∙ ap (λ (c : Bool). if c then Some base else None) is

-- what is open alone has no header
pub none_headed : (image : List ℕ) (base : ℕ) → lone_open image ≡ Some base → is_header (sector_at (base + 1) image) ≡ false → TellsResized image None
none_headed image base there not_one = none_without image (header_tells image base false there not_one)

-- it has one
pub one_headed : (image : List ℕ) (base : ℕ) → lone_open image ≡ Some base → is_header (sector_at (base + 1) image) ≡ true → lone_segment image ≡ Some base
one_headed image base there is = header_tells image base true there is

module _ (image header : List ℕ) (base end : ℕ) (there : lone_segment image ≡ Some base) (header_is : header ≡ sector_at (base + 1) image) (end_is : end ≡ frames_end base image) where
  abbrev further_tests : ℕ → Bool
  further_tests sector = nat_lt (sector + 1) (sectors_of image) && passes header image sector

  stands : (sector : ℕ) → stands_displaced sector image ≡ (nat_lt end sector && further_tests sector)
  unfolding stands_displaced passes
  stands sector =
      ap (λ (b : Option ℕ). stands_beside b sector image) there
      ∙ (λ i. nat_lt (sym end_is i) sector && (nat_lt (sector + 1) (sectors_of image) && (is_elsewhere (half image) sector && leads_on (sym header_is i) sector image)))

  module _ (sectors : ℕ) (size : length image ≡ 512 * sectors) where
    stands_inside : (sector : ℕ) → end < sector → sector < sectors - 1 → stands_displaced sector image ≡ passes header image sector
    stands_inside sector behind low =
        let inside : sector + 1 < sectors_of image = omega (arith, low, size) in
        stands sector
        ∙ ap (λ (b : Bool). b && further_tests sector) (lt-ltb end sector behind)
        ∙ ap (λ (b : Bool). b && passes header image sector) (lt-ltb (sector + 1) (sectors_of image) inside)

    stands_before : (sector : ℕ) → sector ≤ end → stands_displaced sector image ≡ false
    stands_before sector before = stands sector ∙ ap (λ (b : Bool). b && further_tests sector) (le-ltb end sector before)

    stands_last : (sector : ℕ) → sectors - 1 ≤ sector → stands_displaced sector image ≡ false
    stands_last sector high =
        let last : sectors_of image ≤ sector + 1 = omega (arith, high, size) in
        stands sector
        ∙ and_right (nat_lt end sector) (further_tests sector)
        (ap (λ (b : Bool). b && passes header image sector) (le-ltb (sector + 1) (sectors_of image) last))

    pub found_none : TellsFirst (passes header image) (end + 1) (sectors - 1) None → NoneDisplaced image
    found_none none = λ sector. elim (cases_lt end sector) [
      | inl behind ↦ elim (cases_lt sector (sectors - 1)) [
        | inl inside ↦ stands_inside sector behind inside ∙ none sector (omega (arith, behind)) inside
        | inr last ↦ stands_last sector last
      ]
      | inr before ↦ stands_before sector before
    ]

    pub found_one : (found : ℕ) → TellsFirst (passes header image) (end + 1) (sectors - 1) (Some found) → TellsResized image (Some (Displaced (min (2 * found) (2 ^ 64 - 1))))
    found_one found tells = (
      found,
      refl,
      stands_inside found (omega (arith, tells.0)) tells.1 ∙ tells.2,
      λ earlier below. elim (cases_lt end earlier) [
        | inl behind ↦ stands_inside earlier behind (omega (arith, below, tells.1)) ∙ tells.3 earlier (omega (arith, behind)) below
        | inr before ↦ stands_before earlier before
      ],
    )

-- where it is cut, and nothing stands displaced
pub cut_tells : (image : List ℕ) (base : ℕ) → lone_segment image ≡ Some base → NoneDisplaced image → (told : Option Resized) → TellsCut base image told → TellsResized image told
unfolding is_cut_at
cut_tells image base there none None tells = (none, λ sector. ap (λ (b : Option ℕ). ends_open b sector image) there ∙ tells sector)
cut_tells image base there none (Some (Displaced sectors)) tells = absurd tells
cut_tells image base there none (Some (Cut sector)) tells = (none, ap (λ (b : Option ℕ). ends_open b sector image) there ∙ tells)
