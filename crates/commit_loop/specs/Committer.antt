-- What a committer does, step by step and turn by turn.
use Rattle.std.specs.Prelude.{◌≡◌, ℕ, Bool, true, false, List, [], ◌∷◌, ◌++◌, All, Result, Ok, Err, ◌==◌, if◌then◌else◌}
use Rattle.std.specs.List.{flat_map}
use Rattle.commit_loop.specs.declared.gate.Turn.{Turn}
use Rattle.commit_loop.specs.declared.gate.Turn.TheVariants as turn

-- a step
pub data Step : Type 0 where
  -- it found so many commands pending
  counted : (pending : ℕ) → Step
  -- it committed, after which so many were durable
  committed : (durable : ℕ) → Step
  -- it tried to commit, and that failed; it may have found the hall broken
  failed : (broke : Bool) → Step
  -- it raised the board to so many
  raised : (durable : ℕ) → Step
  said_broken : Step
  -- it woke those that wait for so many or fewer
  rang : (durable : ℕ) → Step
  -- it woke all that wait
  rang_all : Step
  slept : Step

-- ## A turn

-- a commit with this outcome
abbrev pub commit_step : {D F : Type 0} → (D → ℕ) → (F → Bool) → Result D F → Step
commit_step number breaks (Ok durable) = committed (number durable)
commit_step number breaks (Err why) = failed (breaks why)

-- what is said of one that failed: where the hall broke, all that wait are told
abbrev pub said_of : Bool → List Step
said_of true = said_broken ∷ rang_all ∷ []
said_of false = []

-- a commit after which so many are durable, or that failed and may have found the hall broken; and what follows it
abbrev pub steps_of_commit : Result ℕ Bool → List Step
steps_of_commit (Ok durable) = committed durable ∷ raised durable ∷ rang durable ∷ []
steps_of_commit (Err broke) = failed broke ∷ (said_of broke ++ slept ∷ [])

-- nothing is done about so many commands
abbrev pub steps_of_skip : ℕ → List Step
steps_of_skip pending = if pending == 0 then slept ∷ [] else []

-- what is done in a turn that does not end the loop
pub data Deed : Type 0 where
  commits : (outcome : Result ℕ Bool) → Deed
  skips : Deed

-- what the gate said
abbrev pub said_at : Deed → Turn
said_at (commits outcome) = turn.Commit
said_at skips = turn.Skip

-- its steps, with so many commands pending
abbrev pub steps_of_deed : ℕ → Deed → List Step
steps_of_deed pending (commits outcome) = steps_of_commit outcome
steps_of_deed pending skips = steps_of_skip pending

-- a turn that did not end the loop
pub record Turned : Type 0 where
  pub pending : ℕ
  pub deed : Deed

abbrev pub steps_at : Turned → List Step
steps_at turned = counted turned.pending ∷ steps_of_deed turned.pending turned.deed

-- ## The loop

-- the gate may have said what was done
abbrev pub IsSaid : (ℕ → Turn → Type 0) → Turned → Type 0
IsSaid says turned = says turned.pending (said_at turned.deed)

-- from the first value to the second leads what is done where the gate says that, with so many commands pending
abbrev pub Acts : {C : Type 0} → (C → List Step → C → Type 0) → ℕ → Turn → C → C → Type 0
Acts leads pending said old new = (deed : Deed) × (said_at deed ≡ said) × leads old (steps_of_deed pending deed) new

-- from the first value to the second leads one turn, which does what the gate said
abbrev pub IsTurn : {C : Type 0} → (C → List Step → C → Type 0) → (ℕ → Turn → Type 0) → C → C → Type 0
IsTurn leads says old new = (turned : Turned) × IsSaid says turned × leads old (steps_at turned) new

-- from the first value to the second leads a look at what is pending, at which the gate ended the loop
abbrev pub IsEnd : {C : Type 0} → (C → List Step → C → Type 0) → (ℕ → Turn → Type 0) → C → C → Type 0
IsEnd leads says old new = (pending : ℕ) × says pending turn.End × leads old (counted pending ∷ []) new

-- from the first value to the second lead turns that do what the gate said, and its end
pub record IsRun {C : Type 0} (leads : C → List Step → C → Type 0) (says : ℕ → Turn → Type 0) (old new : C) : Type 0 where
  pub turns : List Turned
  pub said : All (IsSaid says) turns
  -- how many commands were pending at the end
  pub pending : ℕ
  pub ended : says pending turn.End
  pub made : leads old (flat_map steps_at turns ++ counted pending ∷ []) new
