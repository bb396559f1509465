use Rattle.std.proofs.Common.{◌≡◌, ℕ, List, Option, Some, None, refl, true, false}
use Rattle.uuid.specs.Text.{parsed}
use Rattle.admin_replies.proofs.ids.read_text.Goals as goal

none_of : (o : Option (List ℕ)) → ¬ ((u : List ℕ) × (o ≡ Some u)) → None ≡ o
none_of None h = refl
none_of (Some u) h = absurd (h (u, refl))

pub returns-in-Err : goal.returns-in-Err
returns-in-Err c = none_of (parsed c.args.text.now) (λ h. let bad : false ≡ true = rw c.in-Err.is at (c.parse_str.ensures.ok.1 h) in cc)
