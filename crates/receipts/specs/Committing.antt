-- What a commit does: it lends what is pending, has the half over the disk write that, and settles what became of it.
use Rattle.std.specs.Prelude.{◌≡◌, ℕ, Result, Ok, Err, MatchOption}
use Rattle.std.specs.declared.sync.ledger.Ledger.{Ghosts as LedgerGhosts}
use Rattle.sector_disk.specs.Disk.{DiskView}
use Rattle.sector_disk.specs.declared.disk.Disk.{Ghosts}
use Rattle.broker_core.specs.declared.broker.Broker.{Broker}
use Rattle.broker_core.specs.declared.batch.Batch.{Batch}
use Rattle.broker_core.specs.Batch.{first_of, first_in}
use Rattle.hall_plans.specs.declared.error.HallError.{HallError}
use Rattle.receipts.specs.declared.mark.Trace.{Ghosts as TraceGhosts}
use Rattle.receipts.specs.declared.opening.OpeningTrace.{Ghosts as OpeningGhosts}
use Rattle.receipts.specs.declared.desk.Desk.{Desk}
use Rattle.receipts.specs.declared.locked.Loan.{Loan}
use Rattle.receipts.specs.declared.locked.Loan.TheVariants.{Nothing, Out}
use Rattle.receipts.specs.declared.witness.Witnessed.{Witnessed}
use Rattle.receipts.specs.declared.committed.Committed.{Committed}
use Rattle.receipts.specs.Serving.{WritesBatch}
use Rattle.receipts.specs.Told.{LendsTo, Settles}

-- where nothing was lent, that is told: so much is durable, or why
abbrev pub IsToldOfLoan : Result Loan HallError → Result ℕ HallError → Type 0
IsToldOfLoan (Ok (Nothing durable)) told = told ≡ Ok durable
IsToldOfLoan (Ok (Out batch)) told = ⊥
IsToldOfLoan (Err why) told = told ≡ Err why

-- one step lent nothing, which is told, and the half over the disk is the same
pub record LendsNothing {D L T O A : Type 0} {b : Ghosts D} {l : LedgerGhosts L} {g : TraceGhosts T O} {o : OpeningGhosts O}
    (lent : Witnessed A L T O l g o) (desk desk' : Desk L T O g o) (half half' : Broker D b) (told : Result ℕ HallError) : Type 0 where
  pub loan : Result Loan HallError
  pub lends : LendsTo lent.before.value lent.after.value lent.from.value lent.to.value desk desk' loan
  pub tells : IsToldOfLoan loan told
  pub disk : half' ≡ half

-- one step lent a batch, the half wrote that or refused to, and one more step settled what it answered, which is told
pub record WritesLent {D L T O A : Type 0} {b : Ghosts D} {l : LedgerGhosts L} {g : TraceGhosts T O} {o : OpeningGhosts O}
    (view : D → DiskView) (count : D → ℕ) (lent settled : Witnessed A L T O l g o) (desk desk' : Desk L T O g o)
    (half half' : Broker D b) (told : Result ℕ HallError) : Type 0 where
  pub batch : Batch
  pub between : Desk L T O g o
  pub lends : LendsTo lent.before.value lent.after.value lent.from.value lent.to.value desk between (Ok (Out batch))
  pub writes : WritesBatch view count half half' batch told
  pub first : first_in writes.outcome ≡ first_of batch
  pub settles : Settles settled.before.value settled.after.value settled.from.value settled.to.value between desk' writes.outcome told

-- what was done from a desk and to a half by a commit that answered this
abbrev pub CommitsBy : {D L T O : Type 0} {b : Ghosts D} {l : LedgerGhosts L} {g : TraceGhosts T O} {o : OpeningGhosts O}
    → (D → DiskView) → (D → ℕ) → Committed L T O l g o → Desk L T O g o → Desk L T O g o → Broker D b → Broker D b → Type 0
CommitsBy view count committed desk desk' half half' =
    MatchOption committed.settled
    (LendsNothing committed.lent desk desk' half half' committed.answer)
    (λ settled. WritesLent view count committed.lent settled desk desk' half half' committed.answer)
