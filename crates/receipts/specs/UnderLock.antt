-- What the calls under the lock make of the hall and of the marks, and why they are refused.
use Rattle.std.specs.Prelude.{◌≡◌, ◌⊎◌, ℕ, ◌+◌, ◌*◌, ◌<◌, ◌≤◌, ◌^◌, List, ◌++◌, Option, Some, None, option_map}
use Rattle.api_core.specs.declared.call.Call.{Call}
use Rattle.broker_core.specs.declared.issue_half.IssueHalf.{IssueHalf}
use Rattle.broker_core.specs.Issuer.{issued_in}
use Rattle.broker_core.specs.IssuerHalf.{half_view}
use Rattle.broker_core.specs.Lending.{CanLend, Lends}
use Rattle.hall_plans.specs.declared.issued.Issued.{Issued}
use Rattle.hall_plans.specs.declared.error.HallError.{HallError}
use Rattle.hall_plans.specs.declared.error.HallError.TheVariants as error
use Rattle.hall_plans.specs.Past.{HallCall, tick}
use Rattle.hall_plans.specs.Run.{past_after, issued_by}
use Rattle.hall_core.specs.Hall.{HallView, settings_in, StandsFor, ForEachPast, IsSameHall, CanBeAsked, request, Refuses, KeepsReason}
use Rattle.receipts.specs.declared.locked.Loan.{Loan}
use Rattle.receipts.specs.declared.locked.Loan.TheVariants.{Nothing, Out}
use Rattle.receipts.specs.declared.mark.Mark.{Mark}
use Rattle.receipts.specs.Marks.{marks_by}
use Rattle.receipts.specs.Answers.{IsMismatch}
use Rattle.receipts.specs.Locked.{number_of}

-- ## What was done

-- whatever was done before, the hall did this call, and the desk has the mark of just the command that the call has
abbrev pub DoesAt : HallView → HallView → HallCall → ℕ → List Mark → List Mark → Type 0
DoesAt old new call desk own own' =
    ForEachPast old (λ past.
    StandsFor new (past_after (settings_in old) past call)
    × (own' ≡ own ++ marks_by desk (issued_by (settings_in old) past call)))

-- whatever was done before, the number of the call's command is answered, if it has one
abbrev pub AnswersItsNumber : HallView → HallCall → Option ℕ → Type 0
AnswersItsNumber hall call answer =
    ForEachPast hall (λ past. answer ≡ option_map number_of (issued_by (settings_in hall) past call))

-- whatever was done before, this is what the call issued, if it has a command
abbrev pub IssuedAt : HallView → HallCall → Option Issued → Type 0
IssuedAt hall call issued = ForEachPast hall (λ past. issued ≡ issued_by (settings_in hall) past call)

-- the same marks came to a desk's and to all
abbrev pub AddBoth : List Mark → List Mark → List Mark → List Mark → Type 0
AddBoth own own' all all' = (more : List Mark) × (own' ≡ own ++ more) × (all' ≡ all ++ more)

-- what is lent by a half that can lend: nothing where nothing is pending, and then so much is durable, else just that batch
abbrev pub LendsAs : IssueHalf → IssueHalf → Loan → Type 0
LendsAs old new (Nothing durable) = CanLend old × Lends old new None × (durable ≡ (half_view old).durable)
LendsAs old new (Out batch) = CanLend old × Lends old new (Some batch)

-- ## Slots

-- the next slot of a desk, where so many were counted
abbrev pub next_slot : ℕ → ℕ → ℕ
next_slot slots desk = 32 * slots + desk

-- the slot is the next one of this desk, and is counted
abbrev pub Counts : ℕ → ℕ → ℕ → ℕ → Type 0
Counts slots slots' desk slot = (slot ≡ next_slot slots desk) × (slots' ≡ slots + 1)

-- ## Requests that are not made

-- a request as it comes from a desk that was told so much
pub record Asking : Type 0 where
  pub told : ℕ
  pub desk : ℕ
  pub call : Call
  pub now : ℕ
  pub words : List ℕ

-- the same as a call of the hall, with the next slot
abbrev pub call_of : ℕ → Asking → HallCall
call_of slots asking = request (next_slot slots asking.desk) asking.call asking.now asking.words

-- no less was issued than the desk was told, a slot is left, and the request fits: it is for the hall to judge
pub record ComesToHall (hall : HallView) (slots : ℕ) (asking : Asking) : Type 0 where
  pub told : asking.told ≤ issued_in hall.issuer
  pub room : slots < 2 ^ 58
  pub fits : CanBeAsked hall (next_slot slots asking.desk) asking.call asking.now asking.words

-- the request does not come to the hall: less was issued than the desk was told, else no slot is left, else it does not fit
abbrev pub IsTurnedAway : HallView → ℕ → Asking → HallError → Type 0
IsTurnedAway hall slots asking error.WornOut = (asking.told ≤ issued_in hall.issuer) × (2 ^ 58 ≤ slots)
IsTurnedAway hall slots asking error.Unfit =
    (asking.told ≤ issued_in hall.issuer) × (slots < 2 ^ 58)
    × (CanBeAsked hall (next_slot slots asking.desk) asking.call asking.now asking.words → ⊥)
IsTurnedAway hall slots asking why = IsMismatch asking.told (issued_in hall.issuer) why

-- the hall refuses the call so, as it says of it
pub record HallRefuses (hall : HallView) (call : HallCall) (why : HallError) : Type 0 where
  pub first : Refuses hall call why
  pub reason : KeepsReason hall call why

-- there is no memory for a mark, or else the hall refuses the call so
abbrev pub IsRefusedWithin : HallView → HallCall → HallError → Type 0
IsRefusedWithin hall call why = (why ≡ error.OutOfMemory) ⊎ HallRefuses hall call why

-- why a request of a desk is not made
abbrev pub IsNotMade : HallView → ℕ → Asking → HallError → Type 0
IsNotMade hall slots asking why =
    IsTurnedAway hall slots asking why ⊎ (ComesToHall hall slots asking × IsRefusedWithin hall (call_of slots asking) why)

-- why no move is made for a desk that was told so much
abbrev pub IsNotMoved : HallView → ℕ → ℕ → HallError → Type 0
IsNotMoved hall told now why =
    IsMismatch told (issued_in hall.issuer) why
    ⊎ ((told ≤ issued_in hall.issuer) × IsRefusedWithin hall (tick now) why)

-- ## What is refused changes nothing

-- the hall did nothing in between, and the marks and the count of slots are the same
pub record IsSameUnderLock (old new : HallView) (all all' : List Mark) (counted counted' : ℕ) : Type 0 where
  pub hall : IsSameHall old new
  pub marks : all' ≡ all
  pub slots : counted' ≡ counted

-- why nothing is lent is never that the device failed
abbrev pub IsNoFault : HallError → Type 0
IsNoFault error.Fault = ⊥
IsNoFault why = Unit {0}
