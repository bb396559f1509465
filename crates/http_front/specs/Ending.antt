-- Why the loops of a front end, and what is left to do.
use Rattle.std.specs.Prelude.{◌≡◌, ◌||◌, Bool, IfSome, is_some, nat_lt}
use Rattle.std.specs.declared.sync.ledger.Ledger.{Ghosts as LedgerGhosts}
use Rattle.futures.specs.declared.task.source.Source.{Source}
use Rattle.tokio_util.specs.declared.sync.cancellation_token.CancellationToken.{CancellationToken}
use Rattle.hall_core.specs.Hall.{HallView, pending_in}
use Rattle.receipts.specs.declared.mark.Trace.{Ghosts as TraceGhosts}
use Rattle.receipts.specs.declared.opening.OpeningTrace.{Ghosts as OpeningGhosts}
use Rattle.receipts.specs.Locked.{hall_in}
use Rattle.bell.specs.declared.bell.SaidBroken.{SaidBroken}
use Rattle.http_front.specs.declared.ending.LookAtEnding.{LookAtEnding}
use Rattle.http_front.specs.declared.ending.LookAtRest.{LookAtRest}
use Rattle.http_front.specs.declared.ending.FrontEnded.{FrontEnded}
use Rattle.http_front.specs.declared.ending.FrontEnded.TheVariants.{Told, Failed, Stopped}

-- it was looked whether this says to end
abbrev pub IsLookAt : CancellationToken → LookAtEnding → Type 0
IsLookAt ending look = look.at.value ≡ ending

-- this bell said that the hall broke
abbrev pub IsSaidAt : Source → SaidBroken → Type 0
IsSaidAt bell said = said.at.value ≡ bell

-- why a front with this bell ends: that was looked up here, or said there
abbrev pub IsWhyItEnds : {L T O : Type 0} {l : LedgerGhosts L} {g : TraceGhosts T O} {o : OpeningGhosts O}
    → CancellationToken → Source → FrontEnded L T O l g o → Type 0
IsWhyItEnds ending bell (Told told) = IsLookAt ending told.look
IsWhyItEnds ending bell (Failed failed) = IsSaidAt bell failed.said
IsWhyItEnds ending bell (Stopped stopped) = Unit {0}

-- something is left to do in this hall that nobody calls for, where it was or was not said that it broke
abbrev pub is_unfinished : HallView → Bool → Bool
is_unfinished hall broke = (hall.stops || nat_lt 0 (pending_in hall.issuer)) || broke

-- the look tells that of the hall that was seen, and of what this bell said
pub record LooksAtRest {L T O : Type 0} {l : LedgerGhosts L} {g : TraceGhosts T O} {o : OpeningGhosts O}
    (bell : Source) (look : LookAtRest L T O l g o) : Type 0 where
  pub told : look.is_unfinished ≡ is_unfinished (hall_in look.seen.before.value.hall) (is_some look.said)
  pub said : IfSome look.said (IsSaidAt bell)
