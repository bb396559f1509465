-- What a step of a ticker shows of its try to make a move.
use Rattle.std.proofs.Common.{◌≡◌, ℕ, Bool, false, refl, sym, ◌∙◌, ap, subst}
use Rattle.std.specs.Prelude.{Option, Result, Ok, Err, IfOk, IfErr}
use Rattle.std.specs.declared.sync.ledger.Ledger.{Ghosts as LedgerGhosts}
use Rattle.port_meters.specs.Moments.{millis_in}
use Rattle.port_meters.specs.declared.moment.Moment.{Moment}
use Rattle.port_meters.specs.declared.moment.NoClock.{NoClock}
use Rattle.receipts.specs.declared.desk.Steps.{Steps}
use Rattle.receipts.specs.declared.mark.Trace.{Ghosts as TraceGhosts}
use Rattle.receipts.specs.declared.opening.OpeningTrace.{Ghosts as OpeningGhosts}
use Rattle.receipts.specs.Locked.{hall_in}
use Rattle.receipts.specs.Steps.{after_move}
use Rattle.http_front.specs.declared.tried.Looked.{Looked}
use Rattle.http_front.specs.Marking.{is_made}
use Rattle.http_front.specs.Trying.{Finds, IsStep, quiet_of, ShowsTry}

-- one step from a desk is told by what stood before it and after it alone
step_between : (old new from to : Steps) → IsStep old new from to → IsStep from new from to
step_between old new from to step = record { one = step.one ∙ ap after_move (sym step.from_is); from_is = refl; to_is = step.to_is }

pub shows_try : {L T O : Type 0} {l : LedgerGhosts L} {g : TraceGhosts T O} {o : OpeningGhosts O}
    (told told' : ℕ) (old new : Steps) (quiet : Option Moment) (looked : Result (Looked L T O l g o) NoClock) (moved : Bool)
    → quiet ≡ quiet_of looked
    → IfOk looked (λ l. moved ≡ is_made l.tried) → IfErr looked (λ _. moved ≡ false)
    → IfOk looked (λ l. Finds (hall_in l.seen.before.value.hall) told (millis_in l.at.shown) l.tried)
    → IfOk looked (λ l. IsStep old new l.seen.from.value l.seen.to.value)
    → (moved ≡ false → told' ≡ told) → ShowsTry quiet told' new looked moved
shows_try told told' old new quiet (Ok looked) moved known made none finds step same = record {
  made = made;
  known = known;
  step = step_between old new looked.seen.from.value looked.seen.to.value step;
  finds = λ still. subst (λ n. Finds (hall_in looked.seen.before.value.hall) n (millis_in looked.at.shown) looked.tried) (sym (same still)) finds;
}
shows_try told told' old new quiet (Err why) moved known made none finds step same = (none, known)
