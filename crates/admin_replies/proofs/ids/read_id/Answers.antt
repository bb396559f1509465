use Rattle.std.proofs.Common.{◌≡◌, ℕ, List, Bool, true, false, Option, None, IsUtf8, refl}
use Rattle.std.specs.Str.{is_utf8}
use Rattle.std.proofs.lemmas.Str.{IsUtf8-from_is_utf8, is_utf8-from_IsUtf8}
use Rattle.uuid.specs.Text.{parsed}
use Rattle.admin_replies.specs.Requests.{id_of}
use Rattle.admin_replies.proofs.ids.read_id.Goals as goal

text : (bytes : List ℕ) (r : Option (List ℕ)) → IsUtf8 bytes → r ≡ parsed bytes → r ≡ id_of bytes
text bytes r utf8 e = rw (is_utf8-from_IsUtf8 bytes utf8) e

by : (b : Bool) (bytes : List ℕ) → is_utf8 bytes ≡ b → ¬ (IsUtf8 bytes) → None ≡ id_of bytes
by true bytes e none = absurd (none (IsUtf8-from_is_utf8 bytes e))
by false bytes e none = rw e

pub returns-in-Ok : goal.returns-in-Ok
returns-in-Ok c = let h = c.in-Ok.ensures.cases in text c.args.bytes.now c.read_text.result h.1 (rw h.0 at c.read_text.ensures)

pub returns-in-Err : goal.returns-in-Err
returns-in-Err c = by _ c.args.bytes.now refl c.in-Err.ensures.cases.0
