-- What an advance tells, and what it leaves as it was.
use Rattle.std.proofs.Common.{◌≡◌, ℕ, max, true, refl, sym, ap, subst, ◌∙◌, inl, inr, arith}
use Rattle.std.specs.Prelude.{Result, Ok, Err, IfOk, IfErr, Option, Some, None, is_some}
use Rattle.std.specs.declared.sync.ledger.Ledger.{Ghosts as LedgerGhosts}
use Rattle.broker_core.specs.declared.issue_half.IssueHalf.{IssueHalf}
use Rattle.broker_core.specs.declared.batch.Written.{Written}
use Rattle.broker_core.specs.declared.batch.Failed.{Failed}
use Rattle.broker_core.specs.declared.error.LendError.{LendError}
use Rattle.broker_core.specs.declared.error.LendError.TheVariants as lend_error
use Rattle.broker_core.specs.declared.error.WriteError.TheVariants as write_error
use Rattle.broker_core.specs.declared.error.SettleError.{SettleError}
use Rattle.broker_core.specs.declared.error.SettleError.TheVariants as settle_error
use Rattle.broker_core.specs.IssuerHalf.{half_view}
use Rattle.broker_core.specs.Batch.{cause_of}
use Rattle.broker_core.specs.LendingMore.{IsNoMoreReason, IsFrontNotSettled}
use Rattle.broker_core.specs.Advancing.{IsNotAdvancedAs}
use Rattle.hall_plans.specs.declared.error.HallError.{HallError}
use Rattle.hall_plans.specs.declared.error.HallError.TheVariants as error
use Rattle.hall_core.specs.Halves.{lend_error_of, settle_error_of, IsNoMoreLent}
use Rattle.receipts.specs.declared.mark.Trace.{Ghosts as TraceGhosts}
use Rattle.receipts.specs.declared.opening.OpeningTrace.{Ghosts as OpeningGhosts}
use Rattle.receipts.specs.declared.broken_hall.BrokenHall.{BrokenHall}
use Rattle.receipts.specs.declared.desk.Desk.{Desk}
use Rattle.receipts.specs.declared.desk.Steps.{Steps}
use Rattle.receipts.specs.declared.locked.Locked.{Locked}
use Rattle.receipts.specs.declared.locked.Loan.{Loan}
use Rattle.receipts.specs.Advancing.{SharesTo, IsNotSharedTo, IsToldOfAdvance, SettlesAs, IsToldUpTo}
use Rattle.receipts.specs.Answers.{IsToldMore, IsCommitRefusal}
use Rattle.receipts.specs.Broken.{is_last, TellsBroken}
use Rattle.receipts.specs.UnderLock.{IsNoFault}
use Rattle.receipts.proofs.Broken.{settled_broken}
use Rattle.receipts.proofs.Refused.{mismatch_refuses, lend_refuses, write_refuses}
use Rattle.receipts.proofs.Settled.{HasSameTable, unsettled_same}
use Rattle.receipts.proofs.UnderLock.{told_of, failed_fault, error_in, no_lend_fault}

module _ {L T O : Type 0} {l : LedgerGhosts L} {g : TraceGhosts T O} {o : OpeningGhosts O} (before after : Locked L T O l g o) (from to : Steps) (desk desk' : Desk L T O g o) where
  pub shares_as : (loan loan' : Result Loan HallError) → loan ≡ loan' → SharesTo before after from to desk desk' loan → SharesTo before after from to desk desk' loan'
  shares_as loan loan' is shares = subst (SharesTo before after from to desk desk') is shares

pub no_more_fault : (half : IssueHalf) (why : HallError) → IsNoMoreLent half why → IsNoFault why
no_more_fault half why left = subst IsNoFault (sym left.1) (no_lend_fault left.0)

-- ## What is told

told_front : (old new : IssueHalf) (written : Written) (why : HallError) (cause : SettleError) → why ≡ settle_error_of cause
    → IsFrontNotSettled old new written cause → why ≡ error.OtherHalf
told_front old new written why settle_error.Mismatch is left = is
told_front old new written why (settle_error.NotWritten cause) is left = absurd left

pub told_of_advance : (old new : IssueHalf) (outcome : Result (Option Written) Failed) (result : Result ℕ HallError) → SettlesAs old new outcome result
    → IsToldOfAdvance outcome result
told_of_advance old new (Ok (Some written)) (Ok durable) settles = settles.1.number
told_of_advance old new (Ok (Some written)) (Err why) settles = told_front old new written why settles.0 settles.1 settles.2
told_of_advance old new (Ok None) (Ok durable) settles = tt
told_of_advance old new (Ok None) (Err why) settles = absurd settles
told_of_advance old new (Err failed) (Ok durable) settles = absurd settles
told_of_advance old new (Err failed) (Err why) settles = told_of old new (Err failed) (Err why) tt settles

pub told_at_least : (old new durable : ℕ) → IsToldMore old new durable → IsToldUpTo old new durable
told_at_least old new durable told = (omega (arith, told.0, told.1), omega (arith, told.1))

pub told_up_to : (result : Result ℕ HallError) (old mid new : ℕ) → mid ≡ old → IfOk result (λ durable. new ≡ max mid durable) → IfOk result (IsToldUpTo old new)
told_up_to (Ok durable) old mid new same told = (omega (arith, same, told), omega (arith, told))
told_up_to (Err why) old mid new same told = tt

-- ## Refusals

module _ (told : ℕ) where
  pub refused_sharing : (half : IssueHalf) (why : HallError) → IsNotSharedTo told half why → IsCommitRefusal told why
  refused_sharing half why (inl is) = mismatch_refuses told _ why is
  refused_sharing half why (inr left) = subst (IsCommitRefusal told) (sym left.1.1) (lend_refuses told left.1.0)

  pub refused_advancing : (outcome : Result (Option Written) Failed) (result : Result ℕ HallError) → IsToldOfAdvance outcome result
      → IfErr result (IsCommitRefusal told)
  refused_advancing (Ok (Some written)) (Ok durable) tells = tt
  refused_advancing (Ok (Some written)) (Err why) tells = subst (IsCommitRefusal told) (sym tells) tt
  refused_advancing (Ok None) (Ok durable) tells = tt
  refused_advancing (Ok None) (Err why) tells = absurd tells
  refused_advancing (Err failed) (Ok durable) tells = tt
  refused_advancing (Err failed) (Err why) (inl is) = subst (IsCommitRefusal told) (sym is) (write_refuses told (cause_of failed))
  refused_advancing (Err failed) (Err why) (inr is) = subst (IsCommitRefusal told) (sym is) tt

-- ## Faults

pub advance_fault : (outcome : Result (Option Written) Failed) (result : Result ℕ HallError) → IsToldOfAdvance outcome result → result ≡ Err error.Fault
    → IsNotAdvancedAs outcome write_error.Fault
advance_fault (Ok written) (Ok durable) told is = absurd (cc)
advance_fault (Ok (Some written)) (Err why) told is = absurd (cc (error_in why (Err why) refl is))
advance_fault (Ok None) (Err why) told is = absurd told
advance_fault (Err failed) (Ok durable) told is = absurd (cc)
advance_fault (Err failed) (Err why) told is = failed_fault failed why told (error_in why (Err why) refl is)

-- ## A broken hall

no_more : (half : IssueHalf) (why : LendError) → is_last (lend_error_of why) ≡ true → IsNoMoreReason half why → (half_view half).broken ≡ true
no_more half lend_error.Broken last reason = reason
no_more half lend_error.Lent last reason = absurd reason
no_more half lend_error.OutOfMemory last reason = absurd (cc last)

no_more_to : (told : ℕ) (half : IssueHalf) (why : HallError) → is_last why ≡ true → IsNoFault why → IsNotSharedTo told half why → (half_view half).broken ≡ true
no_more_to told half error.Fault last never left = absurd never
no_more_to told half error.Broken last never left = elim left [ inl mismatch ↦ absurd mismatch | inr right ↦ no_more half right.1.0 (subst (λ (w : HallError). is_last w ≡ true) right.1.1 last) right.1.2 ]
no_more_to told half other last never left = absurd (cc last)

-- of an advance that lent nothing
pub shared_broken : (told : ℕ) (old new : IssueHalf) (lent : Result Loan HallError) (why : HallError) (shown : Option BrokenHall) → lent ≡ Err why
    → IfErr lent (IsNotSharedTo told old) → IfErr lent IsNoFault → (half_view new).broken ≡ (half_view old).broken
    → is_some shown ≡ (half_view new).broken → TellsBroken (Err why) shown
shared_broken told old new lent why shown is left never same shows =
    λ last. shows ∙ same ∙ no_more_to told old why last
    (subst (λ (r : Result Loan HallError). IfErr r IsNoFault) is never)
    (subst (λ (r : Result Loan HallError). IfErr r (IsNotSharedTo told old)) is left)

front_last : (old new : IssueHalf) (written : Written) (why : SettleError) → is_last (settle_error_of why) ≡ true → IsFrontNotSettled old new written why → ⊥
front_last old new written settle_error.Mismatch last left = cc last
front_last old new written (settle_error.NotWritten why) last left = left

-- of an advance that settled what became of what it had lent
pub advanced_broken : (old new : IssueHalf) (outcome : Result (Option Written) Failed) (answer : Result ℕ HallError) (shown : Option BrokenHall)
    → SettlesAs old new outcome answer → is_some shown ≡ (half_view new).broken → TellsBroken answer shown
advanced_broken old new outcome (Ok durable) shown settles shows = tt
advanced_broken old new (Ok (Some written)) (Err why) shown settles shows =
    λ last. absurd (front_last old new written settles.0 (subst (λ (w : HallError). is_last w ≡ true) settles.1 last) settles.2)
advanced_broken old new (Ok None) (Err why) shown settles shows = absurd settles
advanced_broken old new (Err failed) (Err why) shown settles shows = settled_broken old new (Err failed) (Err why) shown settles shows

-- ## The table

front_same : (old new : IssueHalf) (written : Written) (why : SettleError) → IsFrontNotSettled old new written why → HasSameTable old new
front_same old new written settle_error.Mismatch left = (left.1.settings, left.1.table)
front_same old new written (settle_error.NotWritten why) left = absurd left

pub advance_same : (old new : IssueHalf) (outcome : Result (Option Written) Failed) (result : Result ℕ HallError) → SettlesAs old new outcome result → HasSameTable old new
advance_same old new (Ok (Some written)) (Ok durable) settles = (settles.1.settings, settles.1.table)
advance_same old new (Ok (Some written)) (Err why) settles = front_same old new written settles.0 settles.2
advance_same old new (Ok None) (Ok durable) settles = (ap (λ (half : IssueHalf). (half_view half).settings) settles.0, ap (λ (half : IssueHalf). (half_view half).table) settles.0)
advance_same old new (Ok None) (Err why) settles = absurd settles
advance_same old new (Err failed) (Ok durable) settles = absurd settles
advance_same old new (Err failed) (Err why) settles = unsettled_same old new (Err failed) settles.0 settles.2
