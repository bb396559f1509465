-- The rule of a board's one word, and what each step on it tells.
use Rattle.std.specs.Prelude.{◌≡◌, ◌⊎◌, ℕ, ◌≤◌, max, List, length, slice_index}
use lib.ListN.{get_elem?}
use mathlib.Core.Option.{some}
use Rattle.front_board.specs.declared.rule.SeatView.{SeatView}

abbrev pub view : ℕ → ℕ → SeatView
view raised seen = record { raised = raised; seen = seen }

-- no seat knows more than the word
abbrev pub IsAtLeastEach : ℕ → List SeatView → Type 0
IsAtLeastEach n views = (by : ℕ) (v : SeatView) → get_elem? views by ≡ some v → (v.seen ≤ n) × (v.raised ≤ n)

-- the word is the number that the board was opened with, or one that was raised from a seat
abbrev pub ComesFrom : ℕ → ℕ → List SeatView → Type 0
ComesFrom opening n views = (n ≡ opening) ⊎ ((by : ℕ) × (v : SeatView) × (get_elem? views by ≡ some v) × (v.raised ≡ n))

-- the word n, the number that the board was opened with, and all views
abbrev pub IsFair : ℕ → ℕ → List SeatView → Type 0
IsFair opening n views = (opening ≤ n) × IsAtLeastEach n views × ComesFrom opening n views

-- there is one word, which was given
abbrev pub IsKept : (ℕ → Type 0) → ℕ → List ℕ → List SeatView → Type 0
IsKept given opening words views = (length words ≡ 1) × given (slice_index words 0) × IsFair opening (slice_index words 0) views

-- k was raised where the word was `found`: the seat has seen the greater of both, which was given
abbrev pub HasRaised : (ℕ → Type 0) → ℕ → SeatView → ℕ → SeatView → Type 0
HasRaised given k before found after = (after ≡ view (max before.raised k) (max found k)) × (before.seen ≤ found) × given (max found k)

-- the word was looked at, and was `found`
abbrev pub HasLooked : (ℕ → Type 0) → SeatView → ℕ → SeatView → Type 0
HasLooked given before found after = (after ≡ view before.raised found) × (before.seen ≤ found) × given found
