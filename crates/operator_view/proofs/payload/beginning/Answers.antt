use Rattle.std.proofs.Common.{◌≡◌, ℕ, List, IsUtf8, take, length, sym, ap, ◌∙◌, arith}
use Rattle.std.specs.Str.Lossy.{utf8_valid_len}
use Rattle.std.proofs.lemmas.List.{take_all}
use Rattle.std.proofs.lemmas.Str.{utf8_valid_len-IsUtf8}
use Rattle.operator_view.specs.EventText.{whole_characters, beginning}
use Rattle.operator_view.proofs.payload.beginning.Goals as goal

whole : (text bytes : List ℕ) → text ≡ bytes → IsUtf8 bytes → text ≡ whole_characters bytes
whole text bytes is utf8 = rw (utf8_valid_len-IsUtf8 bytes utf8) (is ∙ sym (take_all (length bytes) bytes (omega arith)))

pub returns-in-Ok : goal.returns-in-Ok
unfolding beginning
returns-in-Ok c = whole c.in-Ok.text.now c.front-front.result.now c.in-Ok.ensures.cases.0 c.in-Ok.ensures.cases.1 ∙ ap whole_characters c.front-front.ensures

pub returns-in-Ok-from_utf8 : goal.returns-in-Ok-from_utf8
unfolding beginning
returns-in-Ok-from_utf8 c =
    let cut = c.in-Ok-from_utf8.ensures.cases.0 in
    let most : c.valid_up_to.result ≡ utf8_valid_len c.front-front.result.now = c.valid_up_to.ensures ∙ c.in-Err.ensures.valid_len in
    cut ∙ ap (λ (n : ℕ). take n c.front-front.result.now) most ∙ ap whole_characters c.front-front.ensures
