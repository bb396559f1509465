-- Headers that are added one after the other.
use Rattle.std.proofs.Common.{◌≡◌, ℕ, List, [], ◌∷◌, codes, Option, Some, ap, ◌∙◌}
use Rattle.destination_json.specs.Record.{id_text}
use Rattle.http_port.specs.Answering.{Message, with_more}
use Rattle.admin_port.specs.Replying.{next_told}

pub added : (none one two all : Message) (first second : List ℕ × List ℕ) (rest : List (List ℕ × List ℕ))
    → one ≡ with_more none (first ∷ []) → two ≡ with_more one (second ∷ []) → all ≡ with_more two rest
    → all ≡ with_more none (first ∷ second ∷ rest)
added none one two all first second rest one_is two_is all_is =
    all_is ∙ ap (λ (m : Message). with_more m rest) (two_is ∙ ap (λ (m : Message). with_more m (second ∷ [])) one_is)

-- the id to go on after is one header, where there is one
pub next_added : (old new : Message) (next : Option (List ℕ)) (id text : List ℕ) → next ≡ Some id → text ≡ id_text id
    → new ≡ with_more old ((codes "next-after", text) ∷ []) → new ≡ with_more old (next_told next)
next_added old new next id text is of_text more = rw is (more ∙ ap (λ (t : List ℕ). with_more old ((codes "next-after", t) ∷ [])) of_text)
