-- What each private step of reading a request or of writing a reply gives. No public contract cites it.
use Rattle.std.specs.Prelude.{◌≡◌, ℕ, List, [], ◌∷◌, ◌++◌, map, true}
use Rattle.std.specs.List.{join_with_byte}
use Rattle.std.specs.Borrow.{Bor}
use Rattle.percent_encoding.specs.Percent.{percent_decode}
use Rattle.destination_json.specs.Json.{in_quotes}
use Rattle.api_core.specs.declared.object.Object.{Object}
use Rattle.api_core.specs.declared.drafts.HeaderDraft.{HeaderDraft}
use Rattle.api_core.specs.Reply.{pairs}

-- ## Reading

-- what is read through references
abbrev pub texts : List (Bor (List ℕ)) → List (List ℕ)
texts parts = map (λ (part : Bor (List ℕ)). part.now) parts

-- the same decoded
abbrev pub decoded : List (Bor (List ℕ)) → List (List ℕ)
decoded parts = map percent_decode (texts parts)

-- ## Writing

-- a member of an object whose name is such a text
abbrev pub named : List ℕ → List ℕ → List ℕ
named name value = in_quotes name ++ 58 ∷ value

-- where all is there, it is an object of these members without its last mark
abbrev pub Begun : List (List ℕ) → Object → Type 0
Begun members o = o.is_whole ≡ true → o.text.items ≡ 123 ∷ join_with_byte 44 members

-- where all is there now, it was before, and this was written behind it
abbrev pub Adds : List ℕ → Object → Object → Type 0
Adds text old new = new.is_whole ≡ true → (old.is_whole ≡ true) × (new.text.items ≡ old.text.items ++ text)

-- where all is there now, it was before, and this header stands behind the others
abbrev pub AddsHeader : List ℕ → List ℕ → HeaderDraft → HeaderDraft → Type 0
AddsHeader name value old new =
    new.is_whole ≡ true
    → (old.is_whole ≡ true) × (pairs new.list.items ≡ pairs old.list.items ++ (name, value) ∷ [])
