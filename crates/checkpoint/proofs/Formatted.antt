-- The bytes of a disk that was formatted.
use Rattle.std.proofs.Common.{◌≡◌, ℕ, ◌+◌, ◌*◌, ◌≤◌, true, false, List, length, take, drop, sym, ◌∙◌, ap, arith}
use Rattle.sector_disk.specs.Disk.{Holds}
use Rattle.sector_disk.specs.laws.Written.{same_part, written_size, written_front, written_here, written_behind}
use Rattle.gate_journal.specs.Frames.{is_open}
use Rattle.checkpoint.specs.Image.{sector_at}
use Rattle.checkpoint.specs.FormatSteps.{HoldsFirst, IsClosed}

module _ (second : ℕ) (segment closed open_gate c1 c2 c4 c6 : List ℕ) (size_closed : length closed ≡ 512) (shut : is_open closed ≡ false) (size_open : length open_gate ≡ 512) (opens : is_open open_gate ≡ true)
    (before : 512 + length segment ≤ 512 * second) (inside : 512 * second + 512 ≤ length c1) (gate_b : Holds c1 (512 * second) closed c2) (body : Holds c2 512 segment c4)
    (gate_a : Holds c4 0 open_gate c6) where
  within_b : 512 * second + length closed ≤ length c1
  within_b = omega (arith, size_closed, inside)

  size_2 : length c2 ≡ length c1
  size_2 = written_size c1 (512 * second) closed c2 within_b gate_b

  within_body : 512 + length segment ≤ length c2
  within_body = omega (arith, before, inside, size_2)

  within_a : 0 + length open_gate ≤ length c4
  within_a = omega (arith, before, inside, size_2, written_size c2 512 segment c4 within_body body, size_open)

  pub first_written : HoldsFirst second segment c6
  first_written =
      let place : 0 + length open_gate ≡ 512 = omega (arith, size_open) in
      record {
        gate_a = ap (λ (n : ℕ). is_open (take n c6)) (sym size_open) ∙ ap is_open (written_here c4 0 open_gate c6 within_a gate_a) ∙ opens;
        gate_b =
            ap (λ (l : List ℕ). is_open (take 512 l)) (written_behind c4 0 open_gate c6 within_a gate_a (512 * second) (omega (arith, place, before))
            ∙ written_behind c2 512 segment c4 within_body body (512 * second) before)
            ∙ ap (λ (n : ℕ). is_open (take n (drop (512 * second) c2))) (sym size_closed) ∙ ap is_open (written_here c1 (512 * second) closed c2 within_b gate_b) ∙ shut;
        behind = ap (λ (l : List ℕ). take (length segment) l) (written_behind c4 0 open_gate c6 within_a gate_a 512 (omega (arith, place)))
            ∙ written_here c2 512 segment c4 within_body body;
      }

-- both gates written shut
pub both_closed : (second : ℕ) (closed c0 c1 c2 : List ℕ) → length closed ≡ 512 → is_open closed ≡ false → 512 ≤ 512 * second → 512 * second + 512 ≤ length c0 → Holds c0 0 closed c1
    → Holds c1 (512 * second) closed c2 → IsClosed second c2
both_closed second closed c0 c1 c2 size shut second_is inside gate_a gate_b =
    let within_a : 0 + length closed ≤ length c0 = omega (arith, size, inside) in
    let within_b : 512 * second + length closed ≤ length c1 = omega (arith, size, inside, written_size c0 0 closed c1 within_a gate_a) in
    record {
      gate_a =
          ap is_open (same_part (512 * second) 0 512 c2 c1 (written_front c1 (512 * second) closed c2 within_b gate_b) (omega (arith, second_is)))
          ∙ ap (λ (n : ℕ). is_open (take n c1)) (sym size) ∙ ap is_open (written_here c0 0 closed c1 within_a gate_a) ∙ shut;
      gate_b = ap (λ (n : ℕ). is_open (take n (drop (512 * second) c2))) (sym size) ∙ ap is_open (written_here c1 (512 * second) closed c2 within_b gate_b) ∙ shut;
    }

-- a segment written between them
pub segment_there : (second : ℕ) (segment c2 c4 : List ℕ) → 512 + length segment ≤ 512 * second → 512 + length segment ≤ length c2 → IsClosed second c2 → Holds c2 512 segment c4
    → (is_open (sector_at second c4) ≡ false) × (take (length segment) (drop 512 c4) ≡ segment)
segment_there second segment c2 c4 before within closed body = (
  ap (λ (l : List ℕ). is_open (take 512 l)) (written_behind c2 512 segment c4 within body (512 * second) before) ∙ closed.gate_b,
  written_here c2 512 segment c4 within body,
)
