-- How many desks an office has, and when they are all there.
use Rattle.std.specs.Prelude.{All, ◌≡◌, ℕ, ◌+◌, ◌<◌, max, ◌==◌, List, length, count_by}
use Rattle.retry_rules.specs.declared.settings.Settings.{Settings}
use Rattle.receipts.specs.declared.error.FinishError.{FinishError}
use Rattle.receipts.specs.declared.error.FinishError.TheVariants.{Mismatch, NotJoined}
use Rattle.receipts.specs.declared.mark.Mark.{Mark}
use Rattle.broker_core.specs.declared.error.JoinError.{JoinError}
use Rattle.receipts.specs.Marks.{history_of_desk}

-- for each environment one, and three more; at least eight
abbrev pub desk_count : Settings → ℕ
desk_count s = max 8 (s.environments + 3)

-- each number below this is the number of one
abbrev pub IsEachOnce : {X : Type 0} → (X → ℕ) → ℕ → List X → Type 0
IsEachOnce number count desks = (n : ℕ) → n < count → count_by (λ desk. number desk == n) desks ≡ 1

-- there are so many, and each number below that is the number of one
abbrev pub HaveEachOnce : {X : Type 0} → (X → ℕ) → ℕ → List X → Type 0
HaveEachOnce number count desks = (length desks ≡ count) × IsEachOnce number count desks

-- the desks have each number once, and each has its history among the marks
pub record AreAll {X : Type 0} (number : X → ℕ) (own : X → List Mark) (count : ℕ) (marks : List Mark) (desks : List X) : Type 0 where
  pub once : HaveEachOnce number count desks
  pub own_history : All (λ desk. own desk ≡ history_of_desk (number desk) marks) desks

-- why an office is not closed, where this says that all its desks are there
abbrev pub IsReason : Type 0 → FinishError → Type 0
IsReason all Mismatch = all → ⊥
IsReason all (NotJoined why) = all

-- where it was not joined, this holds of why
abbrev pub IsWhyNotJoined : (JoinError → Type 0) → FinishError → Type 0
IsWhyNotJoined refused Mismatch = Unit {0}
IsWhyNotJoined refused (NotJoined why) = refused why

abbrev pub IsNotMismatch : FinishError → Type 0
IsNotMismatch Mismatch = ⊥
IsNotMismatch (NotJoined why) = Unit {0}
