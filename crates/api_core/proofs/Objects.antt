-- Objects that are written member by member.
use Rattle.std.proofs.Common.{◌≡◌, ℕ, true, List, [], ◌∷◌, ◌++◌, Vec, Result, Ok, Err, IfOk, refl, sym, ap, ◌∙◌, append_assoc}
use Rattle.std.specs.List.{join_with_byte}
use Rattle.std.specs.declared.alloc.AllocError.{AllocError}
use Rattle.std.specs.declared.alloc.Global.{Global}
use Rattle.destination_json.specs.Json.{object}
use Rattle.api_core.specs.declared.object.Object.{Object}
use Rattle.api_core.specs.Steps.{Begun, Adds}

joined : (first : List ℕ) (members : List (List ℕ)) (m : List ℕ)
    → join_with_byte 44 (first ∷ (members ++ m ∷ [])) ≡ join_with_byte 44 (first ∷ members) ++ 44 ∷ m
joined first [] m = refl
joined first (second ∷ members) m =
    ap (λ l. first ++ 44 ∷ l) (joined second members m) ∙ sym (append_assoc first (44 ∷ join_with_byte 44 (second ∷ members)) (44 ∷ m))

-- a member behind others
pub more : (first : List ℕ) (members : List (List ℕ)) (m : List ℕ) (old new : Object)
    → Begun (first ∷ members) old → Adds (44 ∷ m) old new → Begun (first ∷ (members ++ m ∷ [])) new
more first members m old new begun adds whole =
    let h = adds whole in
    h.1 ∙ rw (begun h.0) (ap (λ l. 123 ∷ l) (sym (joined first members m)))

-- the whole object
pub ended : (members : List (List ℕ)) (o : Object) (result : Result (Vec ℕ Global) AllocError) → Begun members o
    → IfOk result (λ text. (o.is_whole ≡ true) × (text.items ≡ o.text.items ++ 125 ∷ []))
    → IfOk result (λ text. text.items ≡ object members)
ended members o (Ok text) begun (whole, e) = e ∙ rw (begun whole)
ended members o (Err why) begun h = tt

-- ## Objects of two, three and five members

module _ (m₁ m₂ : List ℕ) (o₁ o₂ : Object) (begun : Begun (m₁ ∷ []) o₁) (second : Adds (44 ∷ m₂) o₁ o₂) where
  pub two : Begun (m₁ ∷ m₂ ∷ []) o₂
  two = more m₁ [] m₂ o₁ o₂ begun second

  pub three : (m₃ : List ℕ) (o₃ : Object) → Adds (44 ∷ m₃) o₂ o₃ → Begun (m₁ ∷ m₂ ∷ m₃ ∷ []) o₃
  three m₃ o₃ third = more m₁ (m₂ ∷ []) m₃ o₂ o₃ two third
