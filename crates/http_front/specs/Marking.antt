-- What a ticker has marked, beside the steps that it made.
use Rattle.std.specs.Prelude.{◌≡◌, ℕ, ◌+◌, Bool, true, false, List, Option, sum_by}
use Rattle.port_meters.specs.declared.moment.Moment.{Moment}
use Rattle.commit_loop.specs.Ticker.{Step, counted, ticked, called, slept}
use Rattle.http_front.specs.declared.tried.Tried.{Tried}
use Rattle.http_front.specs.declared.tried.Tried.TheVariants.{Made}

abbrev pub is_made : Tried → Bool
is_made Made = true
is_made other = false

-- how many moves a step made
abbrev pub moves_in : Step → ℕ
moves_in (counted pending) = 0
moves_in (ticked true) = 1
moves_in (ticked false) = 0
moves_in called = 0
moves_in slept = 0

-- the desk, which had so many marks, has one more for each move, and no other
abbrev pub HasMarked : ℕ → List Step → ℕ → Type 0
HasMarked old steps new = new ≡ old + sum_by moves_in steps

-- ## The moment at which nothing was due

-- how many moves a step looked for
abbrev pub looks_in : Step → ℕ
looks_in (ticked moved) = 1
looks_in other = 0

-- it is known still where no move was looked for since
abbrev pub KeepsQuiet : Option Moment → List Step → Option Moment → Type 0
KeepsQuiet old steps new = sum_by looks_in steps ≡ 0 → new ≡ old
