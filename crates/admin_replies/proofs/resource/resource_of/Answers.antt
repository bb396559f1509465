-- A path that is none of the fixed ones.
use Rattle.std.proofs.Common.{◌≡◌, ℕ, List, Bool, true, false, Result, refl}
use Rattle.std.specs.Prelude.{bytes_eq, codes}
use Rattle.std.proofs.lemmas.Slice.Eq.{bytes_eq-Decides}
use Rattle.admin_replies.specs.declared.resource.Resource.{Resource}
use Rattle.admin_replies.specs.declared.admin_refusal.AdminRefusal.{AdminRefusal}
use Rattle.admin_replies.specs.Requests.{resource_of, named_by}
use Rattle.admin_replies.proofs.resource.resource_of.Goals as goal

differ_by : (b : Bool) (xs ys : List ℕ) → bytes_eq xs ys ≡ b → (xs ≡ ys → ⊥) → b ≡ false
differ_by false xs ys e h = refl
differ_by true xs ys e h = absurd (h ((bytes_eq-Decides xs ys).0 e))

differ : (xs ys : List ℕ) → (xs ≡ ys → ⊥) → bytes_eq xs ys ≡ false
differ xs ys h = differ_by (bytes_eq xs ys) xs ys refl h

elsewhere : (path : List ℕ) (r : Result Resource AdminRefusal) → bytes_eq path (codes "/") ≡ false → bytes_eq path (codes "/metrics") ≡ false → bytes_eq path (codes "/history") ≡ false → bytes_eq path (codes "/healthz") ≡ false
    → bytes_eq path (codes "/events") ≡ false → bytes_eq path (codes "/records/success") ≡ false → bytes_eq path (codes "/records/failure") ≡ false → r ≡ named_by path → r ≡ resource_of path
elsewhere path r page metrics history health events success failure h = rw (page, metrics, history, health, events, success, failure) h

pub returns-in_default : goal.returns-in_default
returns-in_default c =
    let path = c.args.path.now in
    elsewhere path _ (differ path _ c.in_default.not-text) (differ path _ c.in_default.not-text-2) (differ path _ c.in_default.not-text-3)
    (differ path _ c.in_default.not-text-4) (differ path _ c.in_default.not-text-5) (differ path _ c.in_default.not-text-6) (differ path _ c.in_default.not-text-7)
    (rw c.as_bytes.ensures.value at c.named_by.ensures)
