-- What a ticker does, step by step and turn by turn.
use Rattle.std.specs.Prelude.{◌≡◌, ℕ, Bool, true, false, List, [], ◌∷◌, ◌++◌, All, replicate, nat_lt}
use Rattle.std.specs.List.{flat_map}
use Rattle.commit_loop.specs.declared.gate.Turn.{Turn}
use Rattle.commit_loop.specs.declared.gate.Turn.TheVariants as turn

-- a step
pub data Step : Type 0 where
  -- it found so many commands pending
  counted : (pending : ℕ) → Step
  -- it made a move that was due, or found none
  ticked : (moved : Bool) → Step
  -- it called the committer
  called : Step
  slept : Step

-- ## A turn

-- so many moves, and that no more is due
abbrev pub steps_of_moves : ℕ → List Step
steps_of_moves made = replicate made (ticked true) ++ ticked false ∷ []

-- the committer is called where this holds
abbrev pub steps_of_call : Bool → List Step
steps_of_call true = called ∷ []
steps_of_call false = []

-- what is done in a turn that does not end the loop
pub data Deed : Type 0 where
  moves : (made : ℕ) → Deed
  skips : Deed

-- what the gate said
abbrev pub said_at : Deed → Turn
said_at (moves made) = turn.Commit
said_at skips = turn.Skip

-- its steps: nobody is called where no move was made
abbrev pub steps_of_deed : Deed → List Step
steps_of_deed (moves made) = steps_of_moves made ++ (steps_of_call (nat_lt 0 made) ++ slept ∷ [])
steps_of_deed skips = slept ∷ []

-- a turn that did not end the loop
pub record Turned : Type 0 where
  pub pending : ℕ
  pub deed : Deed

abbrev pub steps_at : Turned → List Step
steps_at turned = counted turned.pending ∷ steps_of_deed turned.deed

-- ## The loop

-- the gate may have said what was done
abbrev pub IsSaid : (ℕ → Turn → Type 0) → Turned → Type 0
IsSaid says turned = says turned.pending (said_at turned.deed)

-- from the first value to the second leads what is done where the gate says that
abbrev pub Acts : {T : Type 0} → (T → List Step → T → Type 0) → Turn → T → T → Type 0
Acts leads said old new = (deed : Deed) × (said_at deed ≡ said) × leads old (steps_of_deed deed) new

-- from the first value to the second leads one turn, which does what the gate said
abbrev pub IsTurn : {T : Type 0} → (T → List Step → T → Type 0) → (ℕ → Turn → Type 0) → T → T → Type 0
IsTurn leads says old new = (turned : Turned) × IsSaid says turned × leads old (steps_at turned) new

-- from the first value to the second leads a look at what is pending, at which the gate ended the loop
abbrev pub IsEnd : {T : Type 0} → (T → List Step → T → Type 0) → (ℕ → Turn → Type 0) → T → T → Type 0
IsEnd leads says old new = (pending : ℕ) × says pending turn.End × leads old (counted pending ∷ []) new

-- from the first value to the second lead turns that do what the gate said, and its end
pub record IsRun {T : Type 0} (leads : T → List Step → T → Type 0) (says : ℕ → Turn → Type 0) (old new : T) : Type 0 where
  pub turns : List Turned
  pub said : All (IsSaid says) turns
  -- how many commands were pending at the end
  pub pending : ℕ
  pub ended : says pending turn.End
  pub made : leads old (flat_map steps_at turns ++ counted pending ∷ []) new
