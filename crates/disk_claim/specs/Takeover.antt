-- Two that serve one volume: what each does with the registers that they share. Each list has the latest step first.
use Rattle.std.specs.Prelude.{◌≡◌, ◌≢◌, ◌⊎◌, ℕ, ◌==◌, List, [], ◌∷◌, if◌then◌else◌}
use Rattle.std.specs.List.{All, Contains}

-- a step of one of them; what it writes is durable, and what it reads stands on the volume
pub data Step : Type 0 where
  -- this token is written into the claim
  claims : ℕ → Step
  -- the first one writes the command of this number
  writes : ℕ → Step
  -- the first one looks at the claim, and sees this token
  looks : ℕ → Step
  -- the first one hands out the reply to the command of this number
  replies : ℕ → Step
  -- the newcomer reads the commands of these numbers
  reads : List ℕ → Step

-- the token that stands in the claim after these steps; 0 is none
abbrev pub token_after : List Step → ℕ
token_after [] = 0
token_after (claims token ∷ earlier) = token
token_after (_ ∷ earlier) = token_after earlier

-- the numbers that were written in these steps
abbrev pub written_in : List Step → List ℕ
written_in [] = []
written_in (writes number ∷ earlier) = number ∷ written_in earlier
written_in (_ ∷ earlier) = written_in earlier

-- the numbers that were written before the last look which saw this token
abbrev pub seen_with : ℕ → List Step → List ℕ
seen_with own [] = []
seen_with own (looks token ∷ earlier) = if token == own then written_in earlier else seen_with own earlier
seen_with own (_ ∷ earlier) = seen_with own earlier

-- the numbers whose replies were handed out
abbrev pub replied_in : List Step → List ℕ
replied_in [] = []
replied_in (replies number ∷ earlier) = number ∷ replied_in earlier
replied_in (_ ∷ earlier) = replied_in earlier

-- whether this token was written into the claim in these steps
abbrev pub HasClaimed : ℕ → List Step → Type 0
HasClaimed token [] = ⊥
HasClaimed token (claims this ∷ earlier) = (this ≡ token) ⊎ HasClaimed token earlier
HasClaimed token (_ ∷ earlier) = HasClaimed token earlier

-- a read and a look give what was written last
abbrev pub IsLinear : List Step → Type 0
IsLinear [] = Unit {0}
IsLinear (looks token ∷ earlier) = (token ≡ token_after earlier) × IsLinear earlier
IsLinear (reads numbers ∷ earlier) = (numbers ≡ written_in earlier) × IsLinear earlier
IsLinear (_ ∷ earlier) = IsLinear earlier

-- the first one hands out a reply only behind a look that saw its own token, which was made behind the write of that number
abbrev pub Watches : ℕ → List Step → Type 0
Watches own [] = Unit {0}
Watches own (replies number ∷ earlier) = Contains (seen_with own earlier) number × Watches own earlier
Watches own (_ ∷ earlier) = Watches own earlier

-- the newcomer reads only behind its claim
abbrev pub ClaimsFirst : ℕ → List Step → Type 0
ClaimsFirst new [] = Unit {0}
ClaimsFirst new (reads numbers ∷ earlier) = HasClaimed new earlier × ClaimsFirst new earlier
ClaimsFirst new (_ ∷ earlier) = ClaimsFirst new earlier

-- once the newcomer has claimed, the first one does not claim again
abbrev pub IsSucceeded : ℕ → ℕ → List Step → Type 0
IsSucceeded own new [] = Unit {0}
IsSucceeded own new (claims token ∷ earlier) = (HasClaimed new earlier → token ≢ own) × IsSucceeded own new earlier
IsSucceeded own new (_ ∷ earlier) = IsSucceeded own new earlier

-- what the newcomer read, whenever it read, has all of these numbers
abbrev pub AllReadsHave : List ℕ → List Step → Type 0
AllReadsHave numbers [] = Unit {0}
AllReadsHave numbers (reads found ∷ earlier) = All (Contains found) numbers × AllReadsHave numbers earlier
AllReadsHave numbers (_ ∷ earlier) = AllReadsHave numbers earlier

-- two that serve one volume, each by its rule
pub record IsTakeover (own new : ℕ) (steps : List Step) : Type 0 where
  pub linear : IsLinear steps
  pub watches : Watches own steps
  pub claims : ClaimsFirst new steps
  pub succeeded : IsSucceeded own new steps
  pub apart : own ≢ new
