-- The future of one reply: the slot that it waits for, and the number that has to be durable before the office is asked.
use Rattle.std.specs.Prelude.{ℕ, ◌^◌, ◌-◌, Option, Some, None}
use Rattle.std.specs.declared.sync.ledger.Ledger.{Ghosts as LedgerGhosts}
use Rattle.hall_core.specs.declared.released.Released.{Released}
use Rattle.receipts.specs.declared.mark.Trace.{Ghosts as TraceGhosts}
use Rattle.receipts.specs.declared.opening.OpeningTrace.{Ghosts as OpeningGhosts}
use Rattle.receipts.specs.declared.witness.Witnessed.{Witnessed}
use Rattle.receipts.specs.Told.{Takes}
use Rattle.long_poll.specs.declared.waiting.Progress.{Progress}
use Rattle.long_poll.specs.declared.waiting.Progress.TheVariants as progress

-- the number of its ticket, or of the receipt that came for it; none once the reply was told
abbrev pub number_at : Progress → Option ℕ
number_at (progress.Issued ticket) = Some ticket
number_at (progress.Durable receipt) = Some receipt
number_at (progress.Answered receipt number) = Some receipt
number_at progress.Told = None

-- the number for which it registers: that of its ticket, and else the greatest of all, which is rung once nothing more becomes durable
abbrev pub number_for : Progress → ℕ
number_for (progress.Issued ticket) = ticket
number_for other = 2 ^ 64 - 1

-- it is the reply that the hall under the lock gave for this slot
abbrev pub IsTaken : {L T O : Type 0} {l : LedgerGhosts L} {g : TraceGhosts T O} {o : OpeningGhosts O}
    → ℕ → Witnessed Released L T O l g o → Type 0
IsTaken slot told = Takes told.before.value told.after.value slot (Some told.answer)
