-- When a commit or an advance tells that its hall is broken, and what shows it.
use Rattle.std.specs.Prelude.{◌≡◌, ℕ, Bool, true, false, Option, Some, None, Result, IfErr, IfSome, is_some}
use Rattle.std.specs.declared.sync.ledger.Ledger.{Ghosts as LedgerGhosts}
use Rattle.hall_plans.specs.declared.error.HallError.{HallError}
use Rattle.hall_plans.specs.declared.error.HallError.TheVariants as error
use Rattle.receipts.specs.declared.mark.Trace.{Ghosts as TraceGhosts}
use Rattle.receipts.specs.declared.opening.OpeningTrace.{Ghosts as OpeningGhosts}
use Rattle.receipts.specs.declared.broken_hall.BrokenHall.{BrokenHall}
use Rattle.receipts.specs.declared.committed.Committed.{Committed}
use Rattle.receipts.specs.declared.locked.Locked.{Locked}
use Rattle.receipts.specs.declared.witness.Witnessed.{Witnessed}
use Rattle.receipts.specs.Locked.{issuer_in}

-- the hall is broken: no commit after one that was refused for this makes anything durable
abbrev pub is_last : HallError → Bool
is_last error.Fault = true
is_last error.Broken = true
is_last other = false

-- where the hall was broken, this shows it, and that hall
abbrev pub ShowsBroken : {L T O : Type 0} {l : LedgerGhosts L} {g : TraceGhosts T O} {o : OpeningGhosts O}
    → Locked L T O l g o → Option BrokenHall → Type 0
ShowsBroken locked shown =
    (is_some shown ≡ (issuer_in locked.hall).broken) × IfSome shown (λ broken. broken.hall.value ≡ locked.hall)

-- what was under the lock after the last of these steps
abbrev pub left_after : {A L T O : Type 0} {l : LedgerGhosts L} {g : TraceGhosts T O} {o : OpeningGhosts O}
    → Witnessed A L T O l g o → Option (Witnessed A L T O l g o) → Locked L T O l g o
left_after lent None = lent.after.value
left_after lent (Some settled) = settled.after.value

-- the same after the last step of a commit or an advance
abbrev pub left_by : {L T O : Type 0} {l : LedgerGhosts L} {g : TraceGhosts T O} {o : OpeningGhosts O}
    → Committed L T O l g o → Locked L T O l g o
left_by committed = left_after committed.lent committed.settled

-- where a commit or an advance tells that its hall is broken, it shows that
abbrev pub TellsBroken : Result ℕ HallError → Option BrokenHall → Type 0
TellsBroken answer shown = IfErr answer (λ why. is_last why ≡ true → is_some shown ≡ true)
