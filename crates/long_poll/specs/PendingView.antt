-- The future of what an operator is shown.
use Rattle.std.specs.Prelude.{◌≡◌, ℕ, ◌≤◌, Option, Some, None, Result, Ok, Err}
use Rattle.front_board.specs.Board.{seen_from}
use Rattle.front_board.specs.declared.shown.Shown.{Shown}
use Rattle.receipts.specs.declared.view.Unreleased.{Unreleased}
use Rattle.long_poll.specs.declared.pending_view.DurableView.{DurableView}
use Rattle.long_poll.specs.declared.pending_view.ViewError.{ViewError}
use Rattle.long_poll.specs.declared.pending_view.ViewError.TheVariants.{HallBroke, Given}
use Rattle.long_poll.specs.declared.admin_reader.TicketedView.{TicketedView}

-- what is unreleased, if anything is
abbrev pub unreleased_in : Option TicketedView → Option Unreleased
unreleased_in None = None
unreleased_in (Some view) = Some view.unreleased

-- the last number that was seen from the seat by which a receipt was shown
abbrev pub seen_by : Shown → ℕ
seen_by shown = seen_from shown.seat.value

-- it is what was unreleased, and all that it shows was seen on a board to be durable
pub record IsShown (unreleased : Unreleased) (told : DurableView) : Type 0 where
  pub view : told.view ≡ unreleased.view
  pub durable : unreleased.number ≤ seen_by told.shown

-- what is told is just what was unreleased, or that the hall broke before; or that nothing was unreleased any more
abbrev pub IsOf : Option Unreleased → Result DurableView ViewError → Type 0
IsOf None told = told ≡ Err Given
IsOf (Some unreleased) (Ok told) = IsShown unreleased told
IsOf (Some unreleased) (Err (HallBroke said)) = Unit {0}
IsOf (Some unreleased) (Err Given) = ⊥
