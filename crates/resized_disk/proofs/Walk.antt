-- Where frames end, one after another.
use Rattle.std.proofs.Common.{◌≡◌, inl, inr, ℕ, zero, suc, ◌+◌, ◌<◌, ◌≤◌, Bool, true, false, ◌&&◌, List, None, Some, refl, sym, ◌∙◌, ap, arith}
use Rattle.std.specs.Prelude.{min, if◌then◌else◌}
use Rattle.std.proofs.lemmas.Bool.{cases_Bool, le-leb, lt-leb}
use Rattle.resized_disk.specs.Sectors.{sector_at, is_open}
use Rattle.resized_disk.specs.Frames.{frame_sectors, goes_on, next_gate, end_from}
use Rattle.resized_disk.specs.Pieces.{frame_at}

-- no frame begins at this gate
pub none_on : (n end gate : ℕ) (image : List ℕ) → goes_on end gate image ≡ false → end_from n end gate image ≡ gate
unfolding end_from
none_on zero end gate image off = refl
none_on (suc n) end gate image off = ap (λ (b : Bool). if b then end_from n end (next_gate end gate image) image else gate) off

-- one does
one_on : (n end gate : ℕ) (image : List ℕ) → goes_on end gate image ≡ true → end_from (suc n) end gate image ≡ end_from n end (next_gate end gate image) image
unfolding end_from
one_on n end gate image on = ap (λ (b : Bool). if b then end_from n end (next_gate end gate image) image else gate) on

-- fewer than 3 sectors are left
pub no_room : (end gate : ℕ) (image : List ℕ) → end < gate + 3 → goes_on end gate image ≡ false
no_room end gate image few = ap (λ (b : Bool). b && is_open (sector_at gate image)) (lt-leb (gate + 3) end few)

-- its gate is closed
pub gate_closed : (end gate : ℕ) (image : List ℕ) → gate + 3 ≤ end → None ≡ frame_at gate image → goes_on end gate image ≡ false
gate_closed end gate image room closed =
    elim (cases_Bool (is_open (sector_at gate image))) [
      | inl open_gate ↦ absurd (let clash : None ≡ Some (frame_sectors (sector_at (gate + 1) image)) =
          closed ∙ ap (λ (b : Bool). if b then Some (frame_sectors (sector_at (gate + 1) image)) else None) open_gate in cc)
      | inr shut ↦ (λ i. le-leb (gate + 3) end room i && shut i)
    ]

module _ (end gate sectors : ℕ) (image : List ℕ) (room : gate + 3 ≤ end) (told : Some sectors ≡ frame_at gate image) where
  opened : is_open (sector_at gate image) ≡ true
  opened = elim (cases_Bool (is_open (sector_at gate image))) [
    | inl open_gate ↦ open_gate
    | inr shut ↦ absurd (let clash : Some sectors ≡ None =
        told ∙ ap (λ (b : Bool). if b then Some (frame_sectors (sector_at (gate + 1) image)) else None) shut in cc)
  ]

  size : sectors ≡ frame_sectors (sector_at (gate + 1) image)
  size =
      let same : Some sectors ≡ Some (frame_sectors (sector_at (gate + 1) image)) =
      told ∙ ap (λ (b : Bool). if b then Some (frame_sectors (sector_at (gate + 1) image)) else None) opened in
      cc

  on : goes_on end gate image ≡ true
  on = λ i. le-leb (gate + 3) end room i && opened i

  -- the walk goes on behind a frame
  pub further : (left total : ℕ) → end ≤ gate + left → total ≡ end_from left end gate image → 2 ≤ sectors
      → (rest : ℕ) × (end ≤ min (gate + sectors) end + rest) × (total ≡ end_from rest end (min (gate + sectors) end) image)
  further zero total enough so_far some = absurd (omega (arith, enough, room))
  further (suc left) total enough so_far some =
      let next : next_gate end gate image ≡ min (gate + sectors) end = ap (λ (n : ℕ). min (gate + n) end) (sym size) in
      (left, omega (arith, enough, some), so_far ∙ one_on left end gate image on ∙ ap (λ (g : ℕ). end_from left end g image) next)
