-- What came of a try to make a move, and what shows it.
use Rattle.std.specs.Prelude.{◌≡◌, ℕ, Bool, false, Option, Some, None, Result, Ok, Err}
use Rattle.std.specs.declared.sync.ledger.Ledger.{Ghosts as LedgerGhosts}
use Rattle.port_meters.specs.Moments.{millis_in}
use Rattle.port_meters.specs.declared.moment.Moment.{Moment}
use Rattle.port_meters.specs.declared.moment.NoClock.{NoClock}
use Rattle.hall_plans.specs.declared.error.HallError.{HallError}
use Rattle.hall_core.specs.Hall.{HallView}
use Rattle.hall_plans.specs.Past.{tick}
use Rattle.receipts.specs.declared.desk.Steps.{Steps}
use Rattle.receipts.specs.declared.mark.Trace.{Ghosts as TraceGhosts}
use Rattle.receipts.specs.declared.opening.OpeningTrace.{Ghosts as OpeningGhosts}
use Rattle.receipts.specs.Locked.{hall_in}
use Rattle.receipts.specs.Steps.{after_move}
use Rattle.receipts.specs.UnderLock.{AnswersItsNumber, IsNotMoved}
use Rattle.http_front.specs.declared.tried.Looked.{Looked}
use Rattle.http_front.specs.declared.tried.Tried.{Tried}
use Rattle.http_front.specs.declared.tried.Tried.TheVariants.{Made, NothingDue, Refused}
use Rattle.http_front.specs.Marking.{is_made}

-- what came of it in this hall, for a desk that was told so much: a move has a number, none was due, or there is a reason
abbrev pub Finds : HallView → ℕ → ℕ → Tried → Type 0
Finds hall told now Made = (number : ℕ) × AnswersItsNumber hall (tick now) (Some number)
Finds hall told now NothingDue = AnswersItsNumber hall (tick now) None
Finds hall told now Refused = (why : HallError) × IsNotMoved hall told now why

-- one step was to make a move for a desk, which had made so many before it and after it
pub record IsStep (old new from to : Steps) : Type 0 where
  pub one : new ≡ after_move old
  pub from_is : from ≡ old
  pub to_is : to ≡ new

-- the moment of a look, where none was due
abbrev pub quiet_after : Tried → Moment → Option Moment
quiet_after NothingDue at = Some at
quiet_after other at = None

abbrev pub quiet_of : {L T O : Type 0} {l : LedgerGhosts L} {g : TraceGhosts T O} {o : OpeningGhosts O}
    → Result (Looked L T O l g o) NoClock → Option Moment
quiet_of (Ok looked) = quiet_after looked.tried looked.at
quiet_of (Err none) = None

-- one step of a desk, which was told so much and has made so many, shows whether a move was made, and why not; and it is known
-- when none was due
pub record IsTry {L T O : Type 0} {l : LedgerGhosts L} {g : TraceGhosts T O} {o : OpeningGhosts O}
    (quiet : Option Moment) (told : ℕ) (steps : Steps) (looked : Looked L T O l g o) (moved : Bool) : Type 0 where
  pub made : moved ≡ is_made looked.tried
  pub known : quiet ≡ quiet_after looked.tried looked.at
  pub step : IsStep looked.seen.from.value steps looked.seen.from.value looked.seen.to.value
  pub finds : moved ≡ false → Finds (hall_in looked.seen.before.value.hall) told (millis_in looked.at.shown) looked.tried

-- it was tried so, or the clock told no moment
abbrev pub ShowsTry : {L T O : Type 0} {l : LedgerGhosts L} {g : TraceGhosts T O} {o : OpeningGhosts O}
    → Option Moment → ℕ → Steps → Result (Looked L T O l g o) NoClock → Bool → Type 0
ShowsTry quiet told steps (Ok looked) moved = IsTry quiet told steps looked moved
ShowsTry quiet told steps (Err none) moved = (moved ≡ false) × (quiet ≡ None)
