-- What is done under the lock, and why it is refused.
use Rattle.std.proofs.Common.{◌≡◌, ◌⊎◌, inl, inr, ℕ, ◌<◌, ◌≤◌, ◌^◌, Bool, true, false, List, ◌++◌, Option, refl, sym, ap, subst, ◌∙◌}
use Rattle.std.specs.Prelude.{Result, Ok, Err, IfOk, IfErr, option_map}
use Rattle.std.proofs.lemmas.Bool.{true≢false}
use Rattle.broker_core.specs.declared.issue_half.IssueHalf.{IssueHalf}
use Rattle.broker_core.specs.declared.batch.Written.{Written}
use Rattle.broker_core.specs.declared.batch.Failed.{Failed}
use Rattle.broker_core.specs.declared.error.LendError.{LendError}
use Rattle.broker_core.specs.declared.error.LendError.TheVariants as lend_error
use Rattle.broker_core.specs.declared.error.WriteError.{WriteError}
use Rattle.broker_core.specs.declared.error.WriteError.TheVariants as write_error
use Rattle.broker_core.specs.declared.error.SettleError.{SettleError}
use Rattle.broker_core.specs.declared.error.SettleError.TheVariants as settle_error
use Rattle.broker_core.specs.Issuer.{IssuerView, IsSameIssuer, issued_in}
use Rattle.broker_core.specs.IssuerHalf.{half_view}
use Rattle.broker_core.specs.Batch.{cause_of}
use Rattle.broker_core.specs.Lending.{SettlesBy, IsNotSettled}
use Rattle.broker_core.specs.Writing.{IsRefusedAs}
use Rattle.hall_plans.specs.declared.error.HallError.{HallError}
use Rattle.hall_plans.specs.declared.error.HallError.TheVariants as error
use Rattle.hall_plans.specs.declared.issued.Issued.{Issued}
use Rattle.hall_plans.specs.Past.{HallCall}
use Rattle.hall_plans.specs.Run.{past_after}
use Rattle.hall_core.specs.Hall.{HallView, settings_in, IsSameHall, CanBeAsked, Does, IssuesAtMostOne, request}
use Rattle.hall_core.specs.Halves.{lend_error_of, write_error_of, settle_error_of, IsNotLent, IsNotDurable}
use Rattle.receipts.specs.declared.mark.Mark.{Mark}
use Rattle.receipts.specs.Marks.{marks_by}
use Rattle.receipts.specs.Answers.{IsMismatch}
use Rattle.receipts.specs.Locked.{number_of}
use Rattle.receipts.specs.Serving.{IsToldOf}
use Rattle.receipts.proofs.Running.{same_stands}
use Rattle.receipts.specs.UnderLock.{DoesAt, AnswersItsNumber, IssuedAt, next_slot, Asking, ComesToHall, IsTurnedAway, HallRefuses, IsNotMade, IsNoFault}

-- ## What was done

same_issuer : (issuer : IssuerView) → IsSameIssuer issuer issuer
same_issuer issuer = record {
  settings = refl;
  table = refl;
  pending = refl;
  durable = refl;
  broken = refl;
  stands = λ history. (λ is. is, λ is. is);
}

-- where no call was made nothing was done
pub same_hall : (hall : HallView) → IsSameHall hall hall
same_hall hall = record { issuer = same_issuer hall.issuer; environments = refl; wanted = refl; slots = λ events kept. kept; dialect = refl; stops = refl }

module _ (old new : HallView) (call : HallCall) (issued : Option Issued) (does : Does old new call issued) where
  pub does_at : (desk : ℕ) (own own' : List Mark) → own' ≡ own ++ marks_by desk issued → DoesAt old new call desk own own'
  does_at desk own own' added past stands =
      let done = does past stands in
      (done.1, added ∙ ap (λ (i : Option Issued). own ++ marks_by desk i) done.0)

  pub answers_number : (answer : Option ℕ) → answer ≡ option_map number_of issued → AnswersItsNumber old call answer
  answers_number answer is past stands = is ∙ ap (option_map number_of) (does past stands).0

  pub issued_at : (told : Option Issued) → told ≡ issued → IssuedAt old call told
  issued_at told is past stands = is ∙ (does past stands).0

-- what hands out the answered polls does nothing
pub does_still : (old mid new : HallView) (call : HallCall) (issued : Option Issued) → IsSameHall mid new → Does old mid call issued
    → Does old new call issued
does_still old mid new call issued same does past stands =
    let done = does past stands in
    (done.0, same_stands mid new same (past_after (settings_in old) past call) done.1)

pub issues_still : (half mid new : IssueHalf) (issued : Option Issued) → new ≡ mid → IssuesAtMostOne (half_view half) (half_view mid) issued
    → IssuesAtMostOne (half_view half) (half_view new) issued
issues_still half mid new issued same issues = subst (λ (i : IssueHalf). IssuesAtMostOne (half_view half) (half_view i) issued) (sym same) issues

-- ## What is told of a write

told_refused : (old new : IssueHalf) (written : Written) (why : HallError) (cause : SettleError) → why ≡ settle_error_of cause
    → IsNotSettled old new (Ok written) cause → why ≡ error.OtherHalf
told_refused old new written why settle_error.Mismatch is left = is
told_refused old new written why (settle_error.NotWritten cause) is left = absurd left

told_failed : (old new : IssueHalf) (failed : Failed) (why : HallError) (cause : SettleError) → why ≡ settle_error_of cause
    → IsNotSettled old new (Err failed) cause → (why ≡ write_error_of (cause_of failed)) ⊎ (why ≡ error.OtherHalf)
told_failed old new failed why settle_error.Mismatch is left = inr is
told_failed old new failed why (settle_error.NotWritten cause) is left = inl (is ∙ ap write_error_of left.1)

pub told_of : (old new : IssueHalf) (outcome : Result Written Failed) (result : Result ℕ HallError) → IfOk result (SettlesBy old new outcome)
    → IfErr result (IsNotDurable old new outcome) → IsToldOf outcome result
told_of old new (Ok written) (Ok durable) settles left = settles.1.number
told_of old new (Ok written) (Err why) settles left = told_refused old new written why left.0 left.1 left.2
told_of old new (Err failed) (Ok durable) settles left = absurd settles
told_of old new (Err failed) (Err why) settles left = told_failed old new failed why left.0 left.1 left.2

-- ## Faults

by_write : (cause : WriteError) → write_error_of cause ≡ error.Fault → cause ≡ write_error.Fault
by_write write_error.Broken is = cc
by_write write_error.Mismatch is = cc
by_write write_error.WornOut is = cc
by_write write_error.Backlog is = cc
by_write write_error.BadKind is = cc
by_write write_error.OutOfMemory is = cc
by_write write_error.Fault is = refl

pub failed_fault : (failed : Failed) (why : HallError) → (why ≡ write_error_of (cause_of failed)) ⊎ (why ≡ error.OtherHalf) → why ≡ error.Fault
    → cause_of failed ≡ write_error.Fault
failed_fault failed why (inl told) is = by_write (cause_of failed) (sym told ∙ is)
failed_fault failed why (inr told) is = cc

pub error_in : (why : HallError) (result : Result ℕ HallError) → result ≡ Err why → result ≡ Err error.Fault → why ≡ error.Fault
error_in why result was is = cc

-- a fault that is told comes of the write
pub fault_told : (outcome : Result Written Failed) (result : Result ℕ HallError) → IsToldOf outcome result → result ≡ Err error.Fault
    → IsRefusedAs outcome write_error.Fault
fault_told (Ok written) (Ok durable) told is = absurd (cc)
fault_told (Ok written) (Err why) told is = absurd (cc (error_in why (Err why) refl is))
fault_told (Err failed) (Ok durable) told is = absurd told
fault_told (Err failed) (Err why) told is = failed_fault failed why told (error_in why (Err why) refl is)

-- what is no fault is not told as one
pub never_told : (why : HallError) (result : Result ℕ HallError) → result ≡ Err why → IsNoFault why → result ≡ Err error.Fault → ⊥
never_told why result was never is = subst IsNoFault (error_in why result was is) never

pub no_lend_fault : (why : LendError) → IsNoFault (lend_error_of why)
no_lend_fault lend_error.Broken = tt
no_lend_fault lend_error.Lent = tt
no_lend_fault lend_error.OutOfMemory = tt

pub lent_no_fault : (half : IssueHalf) (why : HallError) → IsNotLent half why → IsNoFault why
lent_no_fault half why left = subst IsNoFault (sym left.1) (no_lend_fault left.0)

pub mismatch_no_fault : (told found : ℕ) (why : HallError) → IsMismatch told found why → IsNoFault why
mismatch_no_fault told found (error.Mismatch before issued) is = tt
mismatch_no_fault told found error.Broken is = absurd is
mismatch_no_fault told found error.Stopping is = absurd is
mismatch_no_fault told found error.WornOut is = absurd is
mismatch_no_fault told found error.Backlog is = absurd is
mismatch_no_fault told found error.BadKind is = absurd is
mismatch_no_fault told found error.NoHistory is = absurd is
mismatch_no_fault told found error.OutOfMemory is = absurd is
mismatch_no_fault told found error.Fault is = absurd is
mismatch_no_fault told found error.Lent is = absurd is
mismatch_no_fault told found error.OtherHalf is = absurd is
mismatch_no_fault told found error.Unfit is = absurd is

-- ## Refusals

module _ (hall : HallView) (slots : ℕ) (asking : Asking) where
  turned_by_check : (why : HallError) → IsMismatch asking.told (issued_in hall.issuer) why → IsTurnedAway hall slots asking why
  turned_by_check (error.Mismatch before issued) is = is
  turned_by_check error.Broken is = absurd is
  turned_by_check error.Stopping is = absurd is
  turned_by_check error.WornOut is = absurd is
  turned_by_check error.Backlog is = absurd is
  turned_by_check error.BadKind is = absurd is
  turned_by_check error.NoHistory is = absurd is
  turned_by_check error.OutOfMemory is = absurd is
  turned_by_check error.Fault is = absurd is
  turned_by_check error.Lent is = absurd is
  turned_by_check error.OtherHalf is = absurd is
  turned_by_check error.Unfit is = absurd is

  -- less was issued than the desk was told
  pub not_made_by_check : (why : HallError) → IsMismatch asking.told (issued_in hall.issuer) why → IsNotMade hall slots asking why
  not_made_by_check why is = inl (turned_by_check why is)

  -- no slot is left
  pub not_made_by_slots : asking.told ≤ issued_in hall.issuer → (why : HallError) → why ≡ error.WornOut → 2 ^ 58 ≤ slots → IsNotMade hall slots asking why
  not_made_by_slots told why is full = inl (subst (IsTurnedAway hall slots asking) (sym is) (told, full))

module _ (hall : HallView) (slots : ℕ) (asking : Asking) (told : asking.told ≤ issued_in hall.issuer) (room : slots < 2 ^ 58)
    (slot : ℕ) (next : slot ≡ next_slot slots asking.desk) where
  -- it does not fit
  pub not_made_by_fit : (fits : Bool) → (CanBeAsked hall slot asking.call asking.now asking.words → fits ≡ true) → fits ≡ false
      → IsNotMade hall slots asking error.Unfit
  not_made_by_fit fits all unfit = inl (
    told,
    room,
    λ can. true≢false (sym (all (subst (λ (n : ℕ). CanBeAsked hall n asking.call asking.now asking.words) (sym next) can)) ∙ unfit),
  )

  comes : CanBeAsked hall slot asking.call asking.now asking.words → ComesToHall hall slots asking
  comes can = record {
    told = told;
    room = room;
    fits = subst (λ (n : ℕ). CanBeAsked hall n asking.call asking.now asking.words) next can;
  }

  -- no memory is there for a mark
  pub not_made_by_memory : CanBeAsked hall slot asking.call asking.now asking.words → (why : HallError) → why ≡ error.OutOfMemory
      → IsNotMade hall slots asking why
  not_made_by_memory can why is = inr (comes can, inl is)

  -- the hall refuses it
  pub not_made_by_hall : CanBeAsked hall slot asking.call asking.now asking.words → (why : HallError)
      → HallRefuses hall (request slot asking.call asking.now asking.words) why → IsNotMade hall slots asking why
  not_made_by_hall can why refuses =
      inr (comes can, inr (subst (λ (n : ℕ). HallRefuses hall (request n asking.call asking.now asking.words) why) next refuses))
