-- A commit that tells that its hall is broken left it so.
use Rattle.std.proofs.Common.{◌≡◌, ℕ, true, ◌∙◌, subst, inl, inr}
use Rattle.std.specs.Prelude.{Result, Ok, Err, IfErr, Option, is_some}
use Rattle.broker_core.specs.declared.issue_half.IssueHalf.{IssueHalf}
use Rattle.broker_core.specs.declared.batch.Written.{Written}
use Rattle.broker_core.specs.declared.batch.Failed.{Failed}
use Rattle.broker_core.specs.declared.error.LendError.{LendError}
use Rattle.broker_core.specs.declared.error.LendError.TheVariants as lend_error
use Rattle.broker_core.specs.declared.error.WriteError.{WriteError}
use Rattle.broker_core.specs.declared.error.WriteError.TheVariants as write_error
use Rattle.broker_core.specs.declared.error.SettleError.{SettleError}
use Rattle.broker_core.specs.declared.error.SettleError.TheVariants as settle_error
use Rattle.broker_core.specs.IssuerHalf.{half_view}
use Rattle.broker_core.specs.Batch.{is_lasting}
use Rattle.broker_core.specs.Lending.{IsLendReason, IsNotSettled}
use Rattle.hall_plans.specs.declared.error.HallError.{HallError}
use Rattle.hall_plans.specs.declared.error.HallError.TheVariants as error
use Rattle.hall_core.specs.Halves.{lend_error_of, write_error_of, settle_error_of, IsNotDurable}
use Rattle.receipts.specs.declared.broken_hall.BrokenHall.{BrokenHall}
use Rattle.receipts.specs.declared.locked.Loan.{Loan}
use Rattle.receipts.specs.Broken.{is_last, TellsBroken}
use Rattle.receipts.specs.Locked.{IsNotLentTo}
use Rattle.receipts.specs.UnderLock.{IsNoFault}

not_lent : (half : IssueHalf) (why : LendError) → is_last (lend_error_of why) ≡ true → IsLendReason half why → (half_view half).broken ≡ true
not_lent half lend_error.Broken last reason = reason
not_lent half lend_error.Lent last reason = absurd (cc last)
not_lent half lend_error.OutOfMemory last reason = absurd (cc last)

not_lent_to : (told : ℕ) (half : IssueHalf) (why : HallError) → is_last why ≡ true → IsNoFault why → IsNotLentTo told half why → (half_view half).broken ≡ true
not_lent_to told half error.Fault last never left = absurd never
not_lent_to told half error.Broken last never left = elim left [ inl mismatch ↦ absurd mismatch | inr right ↦ not_lent half right.1.0 (subst (λ (w : HallError). is_last w ≡ true) right.1.1 last) right.1.2 ]
not_lent_to told half other last never left = absurd (cc last)

-- of a commit that lent nothing
pub lent_broken : (told : ℕ) (old new : IssueHalf) (lent : Result Loan HallError) (why : HallError) (shown : Option BrokenHall) → lent ≡ Err why
    → IfErr lent (IsNotLentTo told old) → IfErr lent IsNoFault → (half_view new).broken ≡ (half_view old).broken
    → is_some shown ≡ (half_view new).broken → TellsBroken (Err why) shown
lent_broken told old new lent why shown is left never same shows =
    λ last. shows ∙ same ∙ not_lent_to told old why last
    (subst (λ (r : Result Loan HallError). IfErr r IsNoFault) is never)
    (subst (λ (r : Result Loan HallError). IfErr r (IsNotLentTo told old)) is left)

lasting : (why : WriteError) → is_last (write_error_of why) ≡ true → is_lasting why ≡ true
lasting write_error.Broken last = last
lasting write_error.Mismatch last = last
lasting write_error.WornOut last = last
lasting write_error.Backlog last = last
lasting write_error.BadKind last = last
lasting write_error.OutOfMemory last = last
lasting write_error.Fault last = last

not_settled : (old new : IssueHalf) (outcome : Result Written Failed) (why : SettleError) → is_last (settle_error_of why) ≡ true
    → IsNotSettled old new outcome why → (half_view new).broken ≡ true
not_settled old new outcome settle_error.Mismatch last left = absurd (cc last)
not_settled old new (Ok written) (settle_error.NotWritten why) last left = absurd left
not_settled old new (Err failed) (settle_error.NotWritten why) last left = left.2.broken ∙ lasting why last

-- of a commit that settled what it had lent
pub settled_broken : (old new : IssueHalf) (outcome : Result Written Failed) (answer : Result ℕ HallError) (shown : Option BrokenHall)
    → IfErr answer (IsNotDurable old new outcome) → is_some shown ≡ (half_view new).broken → TellsBroken answer shown
settled_broken old new outcome (Ok durable) shown left shows = tt
settled_broken old new outcome (Err why) shown left shows =
    λ last. shows ∙ not_settled old new outcome left.0 (subst (λ (w : HallError). is_last w ≡ true) left.1 last) left.2
