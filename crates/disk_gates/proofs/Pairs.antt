-- What two gates tell of a disk that is large enough for them.
use Rattle.std.proofs.Common.{◌≡◌, ℕ, ◌≤◌, Bool, false, ◌&&◌, ◌||◌, List, sym, ◌∙◌, ap, subst, arith}
use Rattle.std.specs.Prelude.{nat_lt}
use Rattle.std.proofs.lemmas.Bool.{lt-ltb}
use Rattle.resized_disk.specs.Sectors.{sectors_of, half}

-- one of both has P, where the first has not
pub second_alone : (P : ℕ → List ℕ → Bool) (image : List ℕ) (middle : ℕ) (b : Bool) → 6 ≤ sectors_of image → middle ≡ half image → P 0 image ≡ false → b ≡ P middle image
    → b ≡ (nat_lt 5 (sectors_of image) && (P 0 image || P (half image) image))
second_alone P image middle b enough middle_is closed is =
    subst (λ (x : Bool). b ≡ (x && (P 0 image || P (half image) image))) (sym (lt-ltb 5 (sectors_of image) (omega (arith, enough))))
    (subst (λ (x : Bool). b ≡ (x || P (half image) image)) (sym closed) (is ∙ ap (λ (n : ℕ). P n image) middle_is))
