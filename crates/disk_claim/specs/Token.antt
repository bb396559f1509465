-- Who stands in a claim.
use Rattle.std.specs.Prelude.{ℕ, List, ◌++◌, take, replicate}

-- the bytes of the token in these of a claim
abbrev pub token_in : List ℕ → List ℕ
token_in claim = take 16 claim

-- the bytes of a claim in which a token of these stands
abbrev pub claim_of : List ℕ → List ℕ
claim_of token = token ++ replicate 496 0
