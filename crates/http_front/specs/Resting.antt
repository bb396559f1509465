-- How long the loops sleep.
use Rattle.std.specs.Prelude.{◌≡◌, ℕ, ◌-◌, min, Bool, true, false, Option, Some, None}
use Rattle.std.specs.declared.sync.ledger.Ledger.{Ghosts as LedgerGhosts}
use Rattle.futures.specs.declared.task.source.Source.{Source}
use Rattle.port_meters.specs.Moments.{millis_in}
use Rattle.port_meters.specs.declared.moment.Moment.{Moment}
use Rattle.hall_core.specs.Hall.{HallView}
use Rattle.receipts.specs.declared.mark.Trace.{Ghosts as TraceGhosts}
use Rattle.receipts.specs.declared.opening.OpeningTrace.{Ghosts as OpeningGhosts}
use Rattle.receipts.specs.Locked.{hall_in}
use Rattle.receipts.specs.NextMoment.{IsNextMomentOf}
use Rattle.http_front.specs.declared.discarding.Found.{Found}
use Rattle.http_front.specs.declared.discarding.Found.TheVariants.{Nothing, Records}
use Rattle.http_front.specs.declared.resting.CommitterSlept.{CommitterSlept}
use Rattle.http_front.specs.declared.resting.TickerSlept.{TickerSlept}
use Rattle.http_front.specs.declared.resting.TickerSlept.TheVariants.{Unknown, Blind, Until}
use Rattle.http_front.specs.declared.wake.Slept.{Slept}
use Rattle.http_front.specs.Ending.{LooksAtRest}

-- ## The ticker

-- it slept at this wake, for so many milliseconds at most
abbrev pub IsSleep : Source → Option ℕ → Slept → Type 0
IsSleep wake at_most slept = (slept.at.value ≡ wake) × (slept.at_most ≡ at_most)

-- until a moment, in milliseconds, where there is one, and for a second at most
abbrev pub pause_until : Option ℕ → ℕ → ℕ
pause_until None now = 1000
pause_until (Some next) now = min (next - now) 1000

-- where this hall had no move at an earlier moment, the pause ends when the first event moves otherwise
abbrev pub IsPauseAt : HallView → ℕ → ℕ → ℕ → Type 0
IsPauseAt hall quiet now millis = (next : Option ℕ) × IsNextMomentOf hall quiet next × (millis ≡ pause_until next now)

-- the ticker slept at this wake until the next moment by what it saw, where it was known when no move was due; else a tenth of a second
abbrev pub IsRest : {L T O : Type 0} {l : LedgerGhosts L} {g : TraceGhosts T O} {o : OpeningGhosts O}
    → Source → Option Moment → TickerSlept L T O l g o → Type 0
IsRest wake None (Unknown paused) = paused.millis ≡ 100
IsRest wake (Some quiet) (Blind none paused) = paused.millis ≡ 100
IsRest wake (Some quiet) (Until seen now slept) =
    (millis : ℕ) × IsPauseAt (hall_in seen.before.value.hall) (millis_in quiet.shown) (millis_in now.shown) millis × IsSleep wake (Some millis) slept
IsRest wake quiet other = ⊥

-- ## The committer and the collector

-- where something is left, a tenth of a second at most; else until it is called
abbrev pub pause_for : Bool → Option ℕ
pause_for true = Some 100
pause_for false = None

-- the committer slept so at this wake, by a look at what is left, where this bell tells whether the hall broke
pub record RestsAt {L T O : Type 0} {l : LedgerGhosts L} {g : TraceGhosts T O} {o : OpeningGhosts O}
    (wake bell : Source) (slept : CommitterSlept L T O l g o) : Type 0 where
  pub looks : LooksAtRest bell slept.look
  pub sleeps : IsSleep wake (pause_for slept.look.is_unfinished) slept.slept

-- records may be left that were found
abbrev pub may_be_left : Found → Bool
may_be_left Records = true
may_be_left Nothing = false
