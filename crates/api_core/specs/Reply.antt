-- What the headers of a reply are seen as.
use Rattle.std.specs.Prelude.{ℕ, List, map}
use Rattle.api_core.specs.declared.reply.Header.{Header}
use Rattle.api_core.specs.declared.reply.FixedHeader.{FixedHeader}

-- names and values
abbrev pub pairs : List Header → List (List ℕ × List ℕ)
pairs headers = map (λ (h : Header). (h.name.now, h.value)) headers

abbrev pub fixed_pairs : List FixedHeader → List (List ℕ × List ℕ)
fixed_pairs headers = map (λ (h : FixedHeader). (h.name.now, h.value.now)) headers
