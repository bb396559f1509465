-- What pieces say of the bytes of a whole disk.
use Rattle.std.proofs.Common.{◌≡◌, ℕ, ◌+◌, ◌==◌, Bool, true, false, ◌&&◌, List, take, drop, sym, ◌∙◌, ap}
use Rattle.std.proofs.Math.Seq.{take-add}
use Rattle.std.proofs.lemmas.List.{take-append-drop}
use Rattle.std.proofs.lemmas.Bool.{and_right}
use Rattle.std.proofs.lemmas.List.Folds.{list_all-append}
use Rattle.resized_disk.specs.Blank.{is_blank}

-- zeros, and then zeros
pub blank_more : (done size : ℕ) (image : List ℕ) → is_blank (take done image) ≡ true → is_blank (take size (drop done image)) ≡ true → is_blank (take (done + size) image) ≡ true
blank_more done size image before here =
    ap is_blank (take-add done size image)
    ∙ list_all-append (λ (b : ℕ). b == 0) (take done image) (take size (drop done image))
    ∙ (λ i. before i && here i)

-- zeros, and then a piece that has others
pub not_blank : (done size : ℕ) (image : List ℕ) → is_blank (take done image) ≡ true → is_blank (take size (drop done image)) ≡ false → is_blank image ≡ false
not_blank done size image before here =
    let rest = drop done image in
    let behind : is_blank rest ≡ false =
    ap is_blank (sym (take-append-drop size rest))
    ∙ list_all-append (λ (b : ℕ). b == 0) (take size rest) (drop size rest)
    ∙ ap (λ (b : Bool). b && is_blank (drop size rest)) here in
    ap is_blank (sym (take-append-drop done image))
    ∙ list_all-append (λ (b : ℕ). b == 0) (take done image) rest
    ∙ and_right (is_blank (take done image)) (is_blank rest) behind
