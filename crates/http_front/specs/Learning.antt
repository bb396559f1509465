-- What a committer has learned, beside the steps that it made.
use Rattle.std.specs.Prelude.{ℕ, ◌≤◌, List, All}
use Rattle.commit_loop.specs.Committer.{Step, committed, raised}

-- how many commands are durable, as its desk was told and as was seen from its seat
pub record Known : Type 0 where
  pub told : ℕ
  pub seen : ℕ

abbrev pub known : ℕ → ℕ → Known
known told seen = record { told = told; seen = seen }

-- where a commit made so many durable, its desk was told; where the board was raised to so many, it shows no fewer
abbrev pub IsKnown : Known → Step → Type 0
IsKnown now (committed durable) = durable ≤ now.told
IsKnown now (raised durable) = durable ≤ now.seen
IsKnown now other = Unit {0}

-- these steps were made between two moments
pub record HasLearned (old : Known) (steps : List Step) (new : Known) : Type 0 where
  pub told : old.told ≤ new.told
  pub seen : old.seen ≤ new.seen
  pub each : All (IsKnown new) steps
