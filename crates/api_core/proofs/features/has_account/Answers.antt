use Rattle.std.proofs.Common.{◌≡◌, ℕ, List, Bool, true, false, IsUtf8, refl}
use Rattle.std.specs.Str.{is_utf8}
use Rattle.std.specs.List.{list_any}
use Rattle.std.proofs.lemmas.Str.{IsUtf8-from_is_utf8, is_utf8-from_IsUtf8}
use Rattle.api_core.specs.Dialect.{between_commas, is_account_feature, has_account_feature}
use Rattle.api_core.proofs.features.has_account.Goals as goal

text : (bytes : List ℕ) (answer : Bool) → IsUtf8 bytes → answer ≡ list_any is_account_feature (between_commas bytes)
    → answer ≡ has_account_feature bytes
unfolding has_account_feature
text bytes answer utf8 e = rw (is_utf8-from_IsUtf8 bytes utf8) e

by : (b : Bool) (bytes : List ℕ) → is_utf8 bytes ≡ b → ¬ (IsUtf8 bytes) → false ≡ has_account_feature bytes
unfolding has_account_feature
by true bytes e none = absurd (none (IsUtf8-from_is_utf8 bytes e))
by false bytes e none = rw e

pub returns-in_ok-between_commas-in-Ok : goal.returns-in_ok-between_commas-in-Ok
returns-in_ok-between_commas-in-Ok c =
    let h = c.in-Ok.ensures.cases in
    text c.args.features.now c.any_account.result h.1
    (rw (c.deref.ensures.value, c.in_ok-between_commas-in-Ok.ensures, h.0) at c.any_account.ensures)

pub returns-in-Err : goal.returns-in-Err
returns-in-Err c = by _ c.args.features.now refl c.in-Err.ensures.cases.0
