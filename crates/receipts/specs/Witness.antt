-- What stands beside an answer of an office.
use Rattle.std.specs.Prelude.{◌≡◌}
use Rattle.std.specs.declared.sync.ledger.Ledger.{Ghosts as LedgerGhosts}
use Rattle.receipts.specs.declared.mark.Trace.{Ghosts as TraceGhosts}
use Rattle.receipts.specs.declared.opening.OpeningTrace.{Ghosts as OpeningGhosts}
use Rattle.receipts.specs.declared.desk.Steps.{Steps}
use Rattle.receipts.specs.declared.locked.Locked.{Locked}
use Rattle.receipts.specs.declared.witness.Witnessed.{Witnessed}

-- this stood under the lock before it and after it, and so many steps had the desk made
pub record IsOfStep {A L T O : Type 0} {l : LedgerGhosts L} {g : TraceGhosts T O} {o : OpeningGhosts O}
    (seen : Witnessed A L T O l g o) (before after : Locked L T O l g o) (from to : Steps) : Type 0 where
  pub before_is : seen.before.value ≡ before
  pub after_is : seen.after.value ≡ after
  pub from_is : seen.from.value ≡ from
  pub to_is : seen.to.value ≡ to
