-- What an advance does: it lends what is pending beside what is out, has the half over the disk advance, and settles what that made
-- durable.
use Rattle.std.specs.Prelude.{◌≡◌, ◌⊎◌, ℕ, ◌≤◌, ◌++◌, max, Option, Some, None, Result, Ok, Err, OnOk, OnErr, IfOk, IfErr, MatchOption}
use Rattle.std.specs.declared.sync.ledger.Ledger.{Ghosts as LedgerGhosts}
use Rattle.sector_disk.specs.Disk.{DiskView, IsSameDisk}
use Rattle.sector_disk.specs.declared.disk.Disk.{Ghosts}
use Rattle.broker_core.specs.declared.broker.Broker.{Broker}
use Rattle.broker_core.specs.declared.batch.Batch.{Batch}
use Rattle.broker_core.specs.declared.batch.Written.{Written}
use Rattle.broker_core.specs.declared.batch.Failed.{Failed}
use Rattle.broker_core.specs.declared.issue_half.IssueHalf.{IssueHalf}
use Rattle.broker_core.specs.declared.error.WriteError.TheVariants as write_error
use Rattle.broker_core.specs.Broker.{disk_of, settings_of, issued_of}
use Rattle.broker_core.specs.Promises.{ForEachHistory}
use Rattle.broker_core.specs.Broker.{Stands}
use Rattle.broker_core.specs.Refusals.{FaultsHaveRisen}
use Rattle.broker_core.specs.Issuer.{issued_in}
use Rattle.broker_core.specs.IssuerHalf.{half_view, has_same_lent}
use Rattle.broker_core.specs.Batch.{last_written, cause_of}
use Rattle.broker_core.specs.LendingMore.{LendsMore, SettlesFront}
use Rattle.broker_core.specs.Writing.{taken_from, IsNotWritten, StaysInFront, LeavesStopsWith}
use Rattle.broker_core.specs.Advancing.{Advances, HasNumbers, IsNotAdvancedAs}
use Rattle.hall_plans.specs.declared.error.HallError.{HallError}
use Rattle.hall_plans.specs.declared.error.HallError.TheVariants as error
use Rattle.hall_core.specs.Halves.{HasSameParts, IsNotDurable, IsNoMoreLent, IsFrontNotDurable, write_error_of}
use Rattle.hall_core.specs.Hall.{StandsFor, ForEachPast}
use Rattle.receipts.specs.declared.mark.Trace.{Ghosts as TraceGhosts}
use Rattle.receipts.specs.declared.opening.OpeningTrace.{Ghosts as OpeningGhosts}
use Rattle.receipts.specs.declared.desk.Desk.{Desk}
use Rattle.receipts.specs.declared.desk.Steps.{Steps}
use Rattle.receipts.specs.declared.locked.Locked.{Locked}
use Rattle.receipts.specs.declared.locked.Loan.{Loan}
use Rattle.receipts.specs.declared.locked.Loan.TheVariants.{Nothing, Out}
use Rattle.receipts.specs.declared.witness.Witnessed.{Witnessed}
use Rattle.receipts.specs.declared.committed.Committed.{Committed}
use Rattle.receipts.specs.Answers.{IsMismatch, IsToldMore}
use Rattle.receipts.specs.Committing.{IsToldOfLoan}
use Rattle.receipts.specs.Locked.{hall_in}
use Rattle.receipts.specs.Steps.{after_step}
use Rattle.receipts.specs.Told.{IsLeftSame}
use Rattle.receipts.specs.UnderLock.{IsNoFault}

-- ## Lending beside what is out

-- where nothing is pending, so much is durable and told; else nothing is told
abbrev pub IsToldByShare : ℕ → ℕ → Loan → Type 0
IsToldByShare old new (Nothing durable) = IsToldMore old new durable
IsToldByShare old new (Out batch) = new ≡ old

-- what a half that is not broken lends beside what is out
abbrev pub SharesAs : IssueHalf → IssueHalf → Loan → Type 0
SharesAs old new (Nothing durable) = LendsMore old new None × (durable ≡ (half_view old).durable)
SharesAs old new (Out batch) = LendsMore old new (Some batch)

-- nothing was lent to a desk that was told so much: fewer commands were issued, or else the half has a reason
abbrev pub IsNotSharedTo : ℕ → IssueHalf → HallError → Type 0
IsNotSharedTo told half why =
    IsMismatch told (issued_in (half_view half)) why ⊎ ((told ≤ issued_in (half_view half)) × IsNoMoreLent half why)

-- one step lent just all that is pending and not out, or nothing, and then the desk is told how much is durable
pub record SharesTo {L T O : Type 0} {l : LedgerGhosts L} {g : TraceGhosts T O} {o : OpeningGhosts O}
    (before after : Locked L T O l g o) (from to : Steps) (desk desk' : Desk L T O g o) (result : Result Loan HallError) : Type 0 where
  pub told : IfOk result (IsToldByShare desk.told desk'.told)
  pub steps : desk'.steps ≡ after_step desk.steps
  pub from_is : from ≡ desk.steps
  pub to_is : to ≡ desk'.steps
  pub number : desk'.number ≡ desk.number
  pub own : desk'.own.items ≡ desk.own.items
  pub answered : desk'.answered ≡ desk.answered
  pub err : OnErr result (desk'.told ≡ desk.told)
  pub refused : IfErr result (IsNotSharedTo desk.told before.hall.issuer)
  pub no_fault : IfErr result IsNoFault
  pub lends : IfOk result (SharesAs before.hall.issuer after.hall.issuer)
  pub kept : OnErr result (has_same_lent before.hall.issuer after.hall.issuer)
  pub same : IsLeftSame before after
  pub opening : after.opening ≡ before.opening
  pub lives : after.lives ≡ before.lives

-- ## Settling

-- what an advance tells of what the half answered: its number where something is durable, why where it went on no more, or that it
-- is not of this office
abbrev pub IsToldOfAdvance : Result (Option Written) Failed → Result ℕ HallError → Type 0
IsToldOfAdvance (Ok (Some written)) (Ok durable) = durable ≡ last_written written
IsToldOfAdvance (Ok (Some written)) (Err why) = why ≡ error.OtherHalf
IsToldOfAdvance (Ok None) (Ok durable) = Unit {0}
IsToldOfAdvance (Ok None) (Err why) = ⊥
IsToldOfAdvance (Err failed) (Ok durable) = ⊥
IsToldOfAdvance (Err failed) (Err why) = (why ≡ write_error_of (cause_of failed)) ⊎ (why ≡ error.OtherHalf)

-- what was settled of it
abbrev pub SettlesAs : IssueHalf → IssueHalf → Result (Option Written) Failed → Result ℕ HallError → Type 0
SettlesAs old new (Ok (Some written)) (Ok durable) = SettlesFront old new written durable
SettlesAs old new (Ok (Some written)) (Err why) = IsFrontNotDurable old new written why
SettlesAs old new (Ok None) (Ok durable) = (new ≡ old) × (durable ≡ (half_view old).durable)
SettlesAs old new (Ok None) (Err why) = ⊥
SettlesAs old new (Err failed) (Ok durable) = ⊥
SettlesAs old new (Err failed) (Err why) = IsNotDurable old new (Err failed) why

-- by one step just that is durable, which the desk is told, or there is a reason why it is not
pub record SettlesAdvance {L T O : Type 0} {l : LedgerGhosts L} {g : TraceGhosts T O} {o : OpeningGhosts O}
    (before after : Locked L T O l g o) (from to : Steps) (desk desk' : Desk L T O g o) (outcome : Result (Option Written) Failed)
    (result : Result ℕ HallError) : Type 0 where
  pub told : IfOk result (λ durable. desk'.told ≡ max desk.told durable)
  pub steps : desk'.steps ≡ after_step desk.steps
  pub from_is : from ≡ desk.steps
  pub to_is : to ≡ desk'.steps
  pub number : desk'.number ≡ desk.number
  pub own : desk'.own.items ≡ desk.own.items
  pub answered : desk'.answered ≡ desk.answered
  pub err : OnErr result (desk'.told ≡ desk.told)
  pub settles : SettlesAs before.hall.issuer after.hall.issuer outcome result
  pub tells : IsToldOfAdvance outcome result
  pub stands : ForEachPast (hall_in before.hall) (λ past. StandsFor (hall_in after.hall) past)
  pub parts : HasSameParts (hall_in before.hall) (hall_in after.hall)
  pub all : after.marks.all.items ≡ before.marks.all.items
  pub counted : after.slots ≡ before.slots
  pub opening : after.opening ≡ before.opening
  pub lives : after.lives ≡ before.lives

-- ## The half over the disk

-- the half went on with this batch, or refused to: what is durable then is told, it stands for its list with what it took of the
-- batch, and at each moment a stop left a legal stop of that
pub record AdvancesBatch {D : Type 0} {g : Ghosts D} (view : D → DiskView) (count : D → ℕ) (old new : Broker D g)
    (batch : Batch) (result : Result ℕ HallError) : Type 0 where
  pub outcome : Result (Option Written) Failed
  pub told : IsToldOfAdvance outcome result
  pub numbers : HasNumbers old batch new outcome
  pub done : OnOk outcome (Advances old batch new)
  pub refused : IfErr outcome (λ failed. IsNotWritten old batch new (cause_of failed))
  pub fault : IsNotAdvancedAs outcome write_error.Fault → FaultsHaveRisen count old new
  pub later : count (disk_of old) ≤ count (disk_of new)
  pub same : IsSameDisk (view (disk_of old)) (view (disk_of new))
  pub settings : settings_of new ≡ settings_of old
  pub longer : issued_of old ≤ issued_of new
  pub stands : ForEachHistory view old (λ history. Stands view new (history ++ taken_from old new batch))
  pub front : StaysInFront view old new batch
  pub any_moment : LeavesStopsWith view old new batch

-- what an advance that answered this did to the half: nothing, or it went on with the one batch that was lent
abbrev pub AdvancesTo : {D : Type 0} {g : Ghosts D}
    → (D → DiskView) → (D → ℕ) → Broker D g → Broker D g → Result ℕ HallError → Type 0
AdvancesTo view count old new result = (new ≡ old) ⊎ ((batch : Batch) × AdvancesBatch view count old new batch result)

-- ## The whole

-- a desk that was told so much is told no less then, and no less than this
abbrev pub IsToldUpTo : ℕ → ℕ → ℕ → Type 0
IsToldUpTo old new durable = (old ≤ new) × (durable ≤ new)

-- one step lent nothing, which is told, and the half over the disk is the same
pub record SharesNothing {D L T O A : Type 0} {b : Ghosts D} {l : LedgerGhosts L} {g : TraceGhosts T O} {o : OpeningGhosts O}
    (lent : Witnessed A L T O l g o) (desk desk' : Desk L T O g o) (half half' : Broker D b) (told : Result ℕ HallError) : Type 0 where
  pub loan : Result Loan HallError
  pub lends : SharesTo lent.before.value lent.after.value lent.from.value lent.to.value desk desk' loan
  pub tells : IsToldOfLoan loan told
  pub disk : half' ≡ half

-- one step lent a batch, the half went on with that or refused to, and one more step settled what it answered, which is told
pub record AdvancesShared {D L T O A : Type 0} {b : Ghosts D} {l : LedgerGhosts L} {g : TraceGhosts T O} {o : OpeningGhosts O}
    (view : D → DiskView) (count : D → ℕ) (lent settled : Witnessed A L T O l g o) (desk desk' : Desk L T O g o)
    (half half' : Broker D b) (told : Result ℕ HallError) : Type 0 where
  pub batch : Batch
  pub between : Desk L T O g o
  pub lends : SharesTo lent.before.value lent.after.value lent.from.value lent.to.value desk between (Ok (Out batch))
  pub writes : AdvancesBatch view count half half' batch told
  pub settles : SettlesAdvance settled.before.value settled.after.value settled.from.value settled.to.value between desk' writes.outcome told

-- what was done from a desk and to a half by an advance that answered this
abbrev pub AdvancesBy : {D L T O : Type 0} {b : Ghosts D} {l : LedgerGhosts L} {g : TraceGhosts T O} {o : OpeningGhosts O}
    → (D → DiskView) → (D → ℕ) → Committed L T O l g o → Desk L T O g o → Desk L T O g o → Broker D b → Broker D b → Type 0
AdvancesBy view count committed desk desk' half half' =
    MatchOption committed.settled
    (SharesNothing committed.lent desk desk' half half' committed.answer)
    (λ settled. AdvancesShared view count committed.lent settled desk desk' half half' committed.answer)
