-- What each call under the lock tells of what it met there and of what it leaves, and of its desk: one record for each call,
-- which the office cites, and what it keeps. Beside what was under the lock stands how many steps the desk had made.
use Rattle.std.specs.Prelude.{◌≡◌, ℕ, List, map, Option, Result, IfOk, IfErr, OnOk, OnErr, OnSome, IfSome, IfNone}
use Rattle.std.specs.declared.sync.ledger.Ledger.{Ghosts as LedgerGhosts}
use Rattle.api_core.specs.declared.call.Call.{Call}
use Rattle.broker_core.specs.Issuer.{issued_in}
use Rattle.broker_core.specs.IssuerHalf.{has_same_lent}
use Rattle.broker_core.specs.Lending.{SettlesBy}
use Rattle.broker_core.specs.declared.batch.Written.{Written}
use Rattle.broker_core.specs.declared.batch.Failed.{Failed}
use Rattle.hall_core.specs.declared.released.Released.{Released}
use Rattle.hall_plans.specs.declared.error.HallError.{HallError}
use Rattle.hall_plans.specs.Past.{tick, take_slot, forget_slot}
use Rattle.hall_plans.specs.Plans.{drawn_by}
use Rattle.hall_core.specs.Halves.{HasSameParts, IsNotDurable}
use Rattle.hall_core.specs.Hall.{StandsFor, ForEachPast, IsSameHall, IsAsDurable, IsDone, AnswersPolls, request, slot_told, Gives, GivesFor}
use Rattle.hall_core.specs.OpenSlots.{ForEachKept}
use Rattle.hall_plans.specs.Slots.{point_in, point_of}
use Rattle.receipts.specs.declared.mark.Mark.{Mark}
use Rattle.receipts.specs.declared.mark.Trace.{Ghosts as TraceGhosts}
use Rattle.receipts.specs.declared.opening.OpeningTrace.{Ghosts as OpeningGhosts}
use Rattle.receipts.specs.declared.desk.Desk.{Desk}
use Rattle.receipts.specs.declared.desk.Steps.{Steps}
use Rattle.receipts.specs.declared.locked.Locked.{Locked}
use Rattle.receipts.specs.declared.locked.Loan.{Loan}
use Rattle.receipts.specs.Answers.{AddsAtMostOne, AddsAnswered, AddsAsked, IsToldMore, IsToldIfAny, IsSlotOf}
use Rattle.receipts.specs.Answers.{IsArrivalRefusal, IsTickRefusal}
use Rattle.receipts.specs.Lives.{lives_with}
use Rattle.receipts.specs.Locked.{hall_in, issuer_in, IsToldByLoan, IsNotLentTo}
use Rattle.receipts.specs.Marks.{KeepsHistories}
use Rattle.receipts.specs.Serving.{IsToldOf}
use Rattle.receipts.specs.Steps.{after_step, after_move}
use Rattle.receipts.specs.UnderLock.{DoesAt, AnswersItsNumber, IssuedAt, AddBoth, LendsAs, Counts, IsNotMade, IsNotMoved, IsSameUnderLock, IsNoFault}

-- the marks under the lock
abbrev pub marks_in : {L T O : Type 0} {l : LedgerGhosts L} {g : TraceGhosts T O} {o : OpeningGhosts O}
    → Locked L T O l g o → List Mark
marks_in {g = g} locked = map g.mark locked.marks.all.items

-- the marks of a desk
abbrev pub own_of : {L T O : Type 0} {g : TraceGhosts T O} {o : OpeningGhosts O} → Desk L T O g o → List Mark
own_of {g = g} desk = map g.mark desk.own.items

-- the hall, its marks and its count of slots are the same
abbrev pub IsLeftSame : {L T O : Type 0} {l : LedgerGhosts L} {g : TraceGhosts T O} {o : OpeningGhosts O}
    → Locked L T O l g o → Locked L T O l g o → Type 0
IsLeftSame before after = IsSameUnderLock (hall_in before.hall) (hall_in after.hall) (marks_in before) (marks_in after) before.slots after.slots

-- one step was made from the desk, which had made so many before it and after it, and of which nothing else changed
pub record MakesStep {L T O : Type 0} {g : TraceGhosts T O} {o : OpeningGhosts O} (from to : Steps) (desk desk' : Desk L T O g o) : Type 0 where
  pub steps : desk'.steps ≡ after_step desk.steps
  pub from_is : from ≡ desk.steps
  pub to_is : to ≡ desk'.steps
  pub number : desk'.number ≡ desk.number
  pub told : desk'.told ≡ desk.told
  pub own : desk'.own ≡ desk.own
  pub answered : desk'.answered ≡ desk.answered
  pub issued : desk'.issued ≡ desk.issued

-- one step did just this request, with the slot that is answered, and its command was marked here and at the desk; a refusal is
-- the first check that fails, and changes nothing
pub record Arrives {L T O : Type 0} {l : LedgerGhosts L} {g : TraceGhosts T O} {o : OpeningGhosts O}
    (before after : Locked L T O l g o) (from to : Steps) (desk desk' : Desk L T O g o) (call : Call) (now : ℕ) (words : List ℕ)
    (result : Result (ℕ × ℕ) HallError) : Type 0 where
  pub marks : IfOk result (λ r. AddsAtMostOne desk.number (own_of desk) (own_of desk') r.0)
  pub told : IfOk result (λ r. IsToldMore desk.told desk'.told r.0)
  pub slot : IfOk result (λ r. IsSlotOf desk.number r.1)
  pub steps : desk'.steps ≡ after_step desk.steps
  pub from_is : from ≡ desk.steps
  pub to_is : to ≡ desk'.steps
  pub number : desk'.number ≡ desk.number
  pub err : OnErr result ((desk'.own.items ≡ desk.own.items) × (desk'.told ≡ desk.told))
  pub asked : OnOk result (AddsAsked (drawn_by words) call (own_of desk) (own_of desk'))
  pub refused : IfErr result (IsArrivalRefusal desk.told)
  pub done : IfOk result (λ r. DoesAt (hall_in before.hall) (hall_in after.hall) (request r.1 call now words)
      desk.number (own_of desk) (own_of desk'))
  pub both : OnOk result (AddBoth (own_of desk) (own_of desk') (marks_in before) (marks_in after))
  pub histories : OnOk result (KeepsHistories desk.number (marks_in before) (own_of desk) (marks_in after) (own_of desk'))
  pub unmarked : OnErr result (after.marks.all.items ≡ before.marks.all.items)
  pub counts : IfOk result (λ r. Counts before.slots after.slots desk.number r.1)
  pub ticket : IfOk result (λ r. r.0 ≡ issued_in (issuer_in after.hall))
  pub kept : OnOk result (IsAsDurable (hall_in before.hall) (hall_in after.hall))
  pub no_call : has_same_lent before.hall.issuer after.hall.issuer
  pub opening : after.opening ≡ before.opening
  pub reason : IfErr result (IsNotMade (hall_in before.hall) before.slots
      (record { told = desk.told; desk = desk.number; call = call; now = now; words = words }))
  pub same : OnErr result (IsLeftSame before after)
  -- the desk tells what this request issued
  pub issued : IfOk result (λ r. IssuedAt (hall_in before.hall) (request r.1 call now words) desk'.issued)
  pub kept_issued : OnErr result (desk'.issued ≡ desk.issued)
  -- the desk has the slots of just the polls that this request answered
  pub answered : IfOk result (λ r. AnswersPolls (hall_in before.hall) (request r.1 call now words) desk'.answered.items)
  pub kept_answered : OnErr result (desk'.answered.items ≡ desk.answered.items)
  -- the event that this request ended, if it ended one, is counted with its life
  pub lives : OnOk result (after.lives ≡ lives_with (issuer_in after.hall).table desk'.issued before.lives)
  pub kept_lives : OnErr result (after.lives ≡ before.lives)

-- one step made just this move, and its command was marked here and at the desk; a refusal is the first check that fails, and
-- changes nothing
pub record Moves {L T O : Type 0} {l : LedgerGhosts L} {g : TraceGhosts T O} {o : OpeningGhosts O}
    (before after : Locked L T O l g o) (from to : Steps) (desk desk' : Desk L T O g o) (now : ℕ) (result : Result (Option ℕ) HallError) : Type 0 where
  pub marks : IfOk result (AddsAnswered desk.number (own_of desk) (own_of desk'))
  pub told : IfOk result (IsToldIfAny desk.told desk'.told)
  pub steps : desk'.steps ≡ after_move desk.steps
  pub from_is : from ≡ desk.steps
  pub to_is : to ≡ desk'.steps
  pub number : desk'.number ≡ desk.number
  pub err : OnErr result ((desk'.own.items ≡ desk.own.items) × (desk'.told ≡ desk.told))
  pub refused : IfErr result (IsTickRefusal desk.told)
  pub done : OnOk result (DoesAt (hall_in before.hall) (hall_in after.hall) (tick now) desk.number (own_of desk) (own_of desk'))
  pub answer : IfOk result (AnswersItsNumber (hall_in before.hall) (tick now))
  pub both : OnOk result (AddBoth (own_of desk) (own_of desk') (marks_in before) (marks_in after))
  pub histories : OnOk result (KeepsHistories desk.number (marks_in before) (own_of desk) (marks_in after) (own_of desk'))
  pub unmarked : OnErr result (after.marks.all.items ≡ before.marks.all.items)
  pub counted : after.slots ≡ before.slots
  pub kept : OnOk result (IsAsDurable (hall_in before.hall) (hall_in after.hall))
  pub no_call : has_same_lent before.hall.issuer after.hall.issuer
  pub opening : after.opening ≡ before.opening
  pub reason : IfErr result (IsNotMoved (hall_in before.hall) desk.told now)
  pub same : OnErr result (IsLeftSame before after)
  -- the desk tells what this move issued
  pub issued : OnOk result (IssuedAt (hall_in before.hall) (tick now) desk'.issued)
  pub kept_issued : OnErr result (desk'.issued ≡ desk.issued)
  -- the desk has the slots of just the polls that this move answered
  pub answered : OnOk result (AnswersPolls (hall_in before.hall) (tick now) desk'.answered.items)
  pub kept_answered : OnErr result (desk'.answered.items ≡ desk.answered.items)
  -- the event that this move ended, if it ended one, is counted with its life
  pub lives : OnOk result (after.lives ≡ lives_with (issuer_in after.hall).table desk'.issued before.lives)
  pub kept_lives : OnErr result (after.lives ≡ before.lives)

-- one step lent just all that is pending, or nothing, and then the desk is told how much is durable
pub record LendsTo {L T O : Type 0} {l : LedgerGhosts L} {g : TraceGhosts T O} {o : OpeningGhosts O}
    (before after : Locked L T O l g o) (from to : Steps) (desk desk' : Desk L T O g o) (result : Result Loan HallError) : Type 0 where
  pub told : IfOk result (IsToldByLoan desk.told desk'.told)
  pub steps : desk'.steps ≡ after_step desk.steps
  pub from_is : from ≡ desk.steps
  pub to_is : to ≡ desk'.steps
  pub number : desk'.number ≡ desk.number
  pub own : desk'.own.items ≡ desk.own.items
  pub answered : desk'.answered ≡ desk.answered
  pub err : OnErr result (desk'.told ≡ desk.told)
  pub refused : IfErr result (IsNotLentTo desk.told before.hall.issuer)
  pub no_fault : IfErr result IsNoFault
  pub lends : IfOk result (LendsAs before.hall.issuer after.hall.issuer)
  pub kept : OnErr result (has_same_lent before.hall.issuer after.hall.issuer)
  pub same : IsLeftSame before after
  pub opening : after.opening ≡ before.opening
  pub lives : after.lives ≡ before.lives

-- by one step just the batch that was out is durable, which the desk is told, or there is a reason why it is not
pub record Settles {L T O : Type 0} {l : LedgerGhosts L} {g : TraceGhosts T O} {o : OpeningGhosts O}
    (before after : Locked L T O l g o) (from to : Steps) (desk desk' : Desk L T O g o) (outcome : Result Written Failed)
    (result : Result ℕ HallError) : Type 0 where
  pub told : IfOk result (IsToldMore desk.told desk'.told)
  pub steps : desk'.steps ≡ after_step desk.steps
  pub from_is : from ≡ desk.steps
  pub to_is : to ≡ desk'.steps
  pub number : desk'.number ≡ desk.number
  pub own : desk'.own.items ≡ desk.own.items
  pub answered : desk'.answered ≡ desk.answered
  pub err : OnErr result (desk'.told ≡ desk.told)
  pub refused : IfErr result (IsNotDurable before.hall.issuer after.hall.issuer outcome)
  pub settles : IfOk result (SettlesBy before.hall.issuer after.hall.issuer outcome)
  pub tells : IsToldOf outcome result
  pub stands : ForEachPast (hall_in before.hall) (λ past. StandsFor (hall_in after.hall) past)
  pub parts : HasSameParts (hall_in before.hall) (hall_in after.hall)
  pub all : after.marks.all.items ≡ before.marks.all.items
  pub counted : after.slots ≡ before.slots
  pub opening : after.opening ≡ before.opening
  pub lives : after.lives ≡ before.lives

-- the reply of this slot was taken, where all that it shows is durable
pub record Takes {L T O : Type 0} {l : LedgerGhosts L} {g : TraceGhosts T O} {o : OpeningGhosts O}
    (before after : Locked L T O l g o) (asked : ℕ) (result : Option Released) : Type 0 where
  pub slot : IfSome result (λ released. slot_told released ≡ asked)
  pub gives : Gives (hall_in before.hall) asked result
  pub by_events : ForEachKept before.hall.slots (GivesFor (hall_in before.hall) asked result)
  pub done : OnSome result (IsDone (hall_in before.hall) (hall_in after.hall) (take_slot asked))
  pub none : IfNone result (IsSameHall (hall_in before.hall) (hall_in after.hall))
  pub issuer : after.hall.issuer ≡ before.hall.issuer
  pub marks : after.marks.all.items ≡ before.marks.all.items
  pub counted : after.slots ≡ before.slots
  pub opening : after.opening ≡ before.opening
  pub lives : after.lives ≡ before.lives

-- how many commands have to be durable before the reply of this slot is told, where it is computed and still wanted
pub record TellsPoint {L T O : Type 0} {l : LedgerGhosts L} {g : TraceGhosts T O} {o : OpeningGhosts O}
    (before : Locked L T O l g o) (slot : ℕ) (result : Option ℕ) : Type 0 where
  pub by_past : ForEachPast (hall_in before.hall) (λ past. result ≡ point_of past slot)
  pub by_events : ForEachKept before.hall.slots (λ _ events. result ≡ point_in events slot)

-- the reply of this slot is not wanted any more
pub record Forgets {L T O : Type 0} {l : LedgerGhosts L} {g : TraceGhosts T O} {o : OpeningGhosts O}
    (before after : Locked L T O l g o) (slot : ℕ) : Type 0 where
  pub done : IsDone (hall_in before.hall) (hall_in after.hall) (forget_slot slot)
  pub issuer : after.hall.issuer ≡ before.hall.issuer
  pub marks : after.marks.all.items ≡ before.marks.all.items
  pub counted : after.slots ≡ before.slots
  pub opening : after.opening ≡ before.opening
  pub lives : after.lives ≡ before.lives
