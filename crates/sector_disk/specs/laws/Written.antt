-- Laws on what a write leaves of a disk's bytes, for the crates above that write.
use Rattle.std.proofs.Common.{◌≡◌, ℕ, ◌+◌, ◌-◌, ◌≤◌, List, ◌++◌, length, take, drop, refl, sym, ◌∙◌, ap, arith, append_assoc, length-append, length-drop}
use Rattle.std.proofs.lemmas.List.{take_at, drop_at, take-take, drop-take, drop-drop, length-take-le}
use Rattle.sector_disk.specs.Disk.{Holds, MayDiffer}

-- lists with one front agree in each part of it
pub same_part : (m k j : ℕ) (xs ys : List ℕ) → take m xs ≡ take m ys → k + j ≤ m → take j (drop k xs) ≡ take j (drop k ys)
same_part m k j xs ys same within =
    sym (drop-take k j xs) ∙ ap (λ (l : List ℕ). drop k l) (sym (take-take (k + j) m xs within) ∙ ap (λ (l : List ℕ). take (k + j) l) same ∙ take-take (k + j) m ys within)
    ∙ drop-take k j ys

module _ (old : List ℕ) (at : ℕ) (bytes new : List ℕ) (within : at + length bytes ≤ length old) (holds : Holds old at bytes new) where
  front_size : length (take at old) ≡ at
  front_size = length-take-le at old (omega (arith, within))

  split : new ≡ take at old ++ (bytes ++ drop (at + length bytes) old)
  split = holds ∙ append_assoc (take at old) bytes (drop (at + length bytes) old)

  pub written_size : length new ≡ length old
  written_size = omega (arith, ap length holds, length-append (take at old ++ bytes) (drop (at + length bytes) old), length-append (take at old) bytes, front_size, length-drop (at + length bytes) old)

  -- the bytes in front of it stay
  pub written_front : take at new ≡ take at old
  written_front = ap (λ (l : List ℕ). take at l) split ∙ take_at (take at old) (bytes ++ drop (at + length bytes) old) at front_size

  -- from its place on stand its bytes, and then what was behind them
  pub written_from : drop at new ≡ bytes ++ drop (at + length bytes) old
  written_from = ap (λ (l : List ℕ). drop at l) split ∙ drop_at (take at old) (bytes ++ drop (at + length bytes) old) at front_size

  pub written_here : take (length bytes) (drop at new) ≡ bytes
  written_here = ap (λ (l : List ℕ). take (length bytes) l) written_from ∙ take_at bytes (drop (at + length bytes) old) (length bytes) refl

  directly_behind : drop (at + length bytes) new ≡ drop (at + length bytes) old
  directly_behind =
      ap (λ (l : List ℕ). drop (at + length bytes) l) holds
      ∙ drop_at (take at old ++ bytes) (drop (at + length bytes) old) (at + length bytes) (omega (arith, length-append (take at old) bytes, front_size))

  -- the bytes behind it stay
  pub written_behind : (k : ℕ) → at + length bytes ≤ k → drop k new ≡ drop k old
  written_behind k far =
      let more : at + length bytes + (k - (at + length bytes)) ≡ k = omega (arith, far) in
      ap (λ (m : ℕ). drop m new) (sym more) ∙ sym (drop-drop (k - (at + length bytes)) (at + length bytes) new)
      ∙ ap (λ (l : List ℕ). drop (k - (at + length bytes)) l) directly_behind ∙ drop-drop (k - (at + length bytes)) (at + length bytes) old
      ∙ ap (λ (m : ℕ). drop m old) more

  pub written_differs : MayDiffer at (length bytes) old new
  written_differs = record { size = written_size; before = written_front; after = directly_behind }
