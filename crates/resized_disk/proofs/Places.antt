-- Places in a piece, and the sectors of the image that they are.
use Rattle.std.proofs.Common.{◌≡◌, inl, inr, ℕ, ◌+◌, ◌-◌, ◌*◌, ◌<◌, ◌≤◌, Bool, true, false, ◌&&◌, List, length, take, drop, Option, None, Some, sym, ◌∙◌, ap, subst, arith}
use Rattle.std.specs.Prelude.{option_map, is_some}
use Rattle.std.proofs.lemmas.List.{take_all, drop-drop}
use Rattle.std.proofs.lemmas.Bool.{cases_lt}
use Rattle.sector_disk.specs.laws.Written.{same_part}
use Rattle.resized_disk.specs.Sectors.{sector_at, half, is_open}
use Rattle.resized_disk.specs.Resized.{is_elsewhere, follows, leads_on}
use Rattle.resized_disk.specs.Pieces.{is_found, passes, TellsFirst, IsPiece}

module _ (image piece : List ℕ) (at place : ℕ) (is : IsPiece image at piece) where
  -- a sector of a piece
  pub piece_sector : 512 * place + 512 ≤ length piece → sector_at place piece ≡ sector_at (at + place) image
  piece_sector within =
      let place_is : 512 * at + 512 * place ≡ 512 * (at + place) = omega arith in
      same_part (length piece) (512 * place) 512 piece (drop (512 * at) image) (take_all (length piece) piece (omega arith) ∙ is) within
      ∙ ap (λ (l : List ℕ). take 512 l) (drop-drop (512 * place) (512 * at) image)
      ∙ ap (λ (n : ℕ). take 512 (drop n image)) place_is

module _ (image piece : List ℕ) (at place : ℕ) (is : IsPiece image at piece) (within : 512 * place + 1024 ≤ length piece) where
  next_sector : sector_at (place + 1) piece ≡ sector_at (at + place + 1) image
  next_sector =
      let next : at + (place + 1) ≡ at + place + 1 = omega arith in
      piece_sector image piece at (place + 1) is (omega (arith, within)) ∙ ap (λ (n : ℕ). sector_at n image) next

  here : sector_at place piece ≡ sector_at (at + place) image
  here = piece_sector image piece at place is (omega (arith, within))

  -- what is looked for stands in a piece where it stands in the image
  pub found_passes : (header : List ℕ) (middle : ℕ) → middle ≡ half image → is_found header middle at place piece ≡ passes header image (at + place)
  unfolding is_found passes leads_on
  found_passes header middle middle_is = λ i. is_elsewhere (middle_is i) (at + place) && (is_open (here i) && follows header (next_sector i))

-- the first that passes of some numbers, each so many further on
pub first_further : (p q : ℕ → Bool) (at count : ℕ) → ((n : ℕ) → n < count → p n ≡ q (at + n)) → (found : Option ℕ) → TellsFirst p 0 count found
    → TellsFirst q at (at + count) (option_map (λ n. at + n) found)
first_further p q at count same None none = λ n from to.
    let place : at + (n - at) ≡ n = omega (arith, from) in
    let below : n - at < count = omega (arith, from, to) in
    subst (λ (m : ℕ). q m ≡ false) place (sym (same (n - at) below) ∙ none (n - at) (omega arith) below)
first_further p q at count same (Some found) tells = (
  omega arith,
  omega (arith, tells.1),
  sym (same found tells.1) ∙ tells.2,
  λ n from to.
      let place : at + (n - at) ≡ n = omega (arith, from) in
      let below : n - at < found = omega (arith, from, to) in
      subst (λ (m : ℕ). q m ≡ false) place (sym (same (n - at) (omega (arith, below, tells.1))) ∙ tells.3 (n - at) (omega arith) below),
)

-- none of the first ones, and then the first of those behind
pub first_behind : (p : ℕ → Bool) (from mid to : ℕ) → from ≤ mid → mid ≤ to → TellsFirst p from mid None → (found : Option ℕ) → TellsFirst p mid to found → TellsFirst p from to found
first_behind p from mid to le more none None rest = λ n low high.
    elim (cases_lt n mid) [ inl before ↦ none n low before | inr behind ↦ rest n behind high ]
first_behind p from mid to le more none (Some found) rest = (
  omega (arith, le, rest.0),
  rest.1,
  rest.2,
  λ n low high. elim (cases_lt n mid) [ inl before ↦ none n low before | inr behind ↦ rest.3 n behind high ],
)

-- none at first, and then the one that was found, before others
pub first_of_all : (p : ℕ → Bool) (from at mid to : ℕ) → from ≤ at → at ≤ mid → mid ≤ to → TellsFirst p from at None → (found : Option ℕ) → is_some found ≡ true → TellsFirst p at mid found → TellsFirst p from to found
first_of_all p from at mid to low le more none None is tells = absurd (cc)
first_of_all p from at mid to low le more none (Some found) is tells =
    first_behind p from at to low (omega (arith, le, more)) none (Some found) (tells.0, omega (arith, tells.1, more), tells.2, tells.3)

-- none at first, and none of those behind
pub none_of_more : (p : ℕ → Bool) (from at mid : ℕ) → from ≤ at → at ≤ mid → TellsFirst p from at None → (found : Option ℕ) → is_some found ≡ false → TellsFirst p at mid found → TellsFirst p from mid None
none_of_more p from at mid low le none None is tells = first_behind p from at mid low le none None tells
none_of_more p from at mid low le none (Some found) is tells = absurd (cc)
