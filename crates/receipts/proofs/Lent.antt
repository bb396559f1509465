-- What is told of a loan.
use Rattle.std.proofs.Common.{◌≡◌, ℕ, ◌≤◌, refl, sym, subst, arith}
use Rattle.std.specs.Prelude.{Result, Ok, Err, IfOk, IfErr, OnErr}
use Rattle.std.specs.declared.sync.ledger.Ledger.{Ghosts as LedgerGhosts}
use Rattle.broker_core.specs.declared.issue_half.IssueHalf.{IssueHalf}
use Rattle.broker_core.specs.declared.batch.Written.{Written}
use Rattle.broker_core.specs.declared.batch.Failed.{Failed}
use Rattle.hall_plans.specs.declared.error.HallError.{HallError}
use Rattle.hall_core.specs.Halves.{IsNotDurable}
use Rattle.receipts.specs.declared.mark.Trace.{Ghosts as TraceGhosts}
use Rattle.receipts.specs.declared.opening.OpeningTrace.{Ghosts as OpeningGhosts}
use Rattle.receipts.specs.declared.desk.Desk.{Desk}
use Rattle.receipts.specs.declared.desk.Steps.{Steps}
use Rattle.receipts.specs.declared.locked.Locked.{Locked}
use Rattle.receipts.specs.declared.locked.Loan.{Loan}
use Rattle.receipts.specs.declared.locked.Loan.TheVariants.{Nothing}
use Rattle.receipts.specs.Answers.{IsToldMore, IsCommitRefusal}
use Rattle.receipts.specs.Committing.{IsToldOfLoan}
use Rattle.receipts.specs.Told.{LendsTo}
use Rattle.receipts.proofs.Refused.{refused_settling}

pub told_why : (loan : Result Loan HallError) (why : HallError) → loan ≡ Err why → IsToldOfLoan loan (Err why)
told_why loan why is = subst (λ (x : Result Loan HallError). IsToldOfLoan x (Err why)) (sym is) refl

pub told_durable : (loan : Result Loan HallError) (durable : ℕ) → loan ≡ Ok (Nothing durable) → IsToldOfLoan loan (Ok durable)
told_durable loan durable is = subst (λ (x : Result Loan HallError). IsToldOfLoan x (Ok durable)) (sym is) refl

module _ {L T O : Type 0} {l : LedgerGhosts L} {g : TraceGhosts T O} {o : OpeningGhosts O} (before after : Locked L T O l g o) (from to : Steps) (desk desk' : Desk L T O g o) where
  pub lends_as : (loan loan' : Result Loan HallError) → loan ≡ loan' → LendsTo before after from to desk desk' loan → LendsTo before after from to desk desk' loan'
  lends_as loan loan' is lends = subst (LendsTo before after from to desk desk') is lends

-- ## What holds of the answer that was given

pub at_error : (lent : Result Loan HallError) (why : HallError) (P : HallError → Type 0) → lent ≡ Err why → IfErr lent P → P why
at_error lent why P is holds = subst (λ (x : Result Loan HallError). IfErr x P) is holds

pub at_loan : (lent : Result Loan HallError) (loan : Loan) (P : Loan → Type 0) → lent ≡ Ok loan → IfOk lent P → P loan
at_loan lent loan P is holds = subst (λ (x : Result Loan HallError). IfOk x P) is holds

pub not_error : (durable : ℕ) (why : HallError) → ◌≡◌ {A = Result ℕ HallError} (Ok durable) (Err why) → ⊥
not_error durable why is = cc

-- what a desk was told before a settlement of what was lent to it
pub told_before : (old new last durable : ℕ) → (old ≤ last) × (new ≡ old) → durable ≡ last → new ≤ durable
told_before old new last durable lent is = omega (arith, lent.0, lent.1, is)

module _ (result : Result ℕ HallError) (old mid new : ℕ) (same : mid ≡ old) where
  pub told_along : IfOk result (IsToldMore mid new) → IfOk result (IsToldMore old new)
  told_along told = subst (λ (n : ℕ). IfOk result (IsToldMore n new)) same told

  pub kept_along : OnErr result (new ≡ mid) → OnErr result (new ≡ old)
  kept_along kept = subst (λ (n : ℕ). OnErr result (new ≡ n)) same kept

-- why nothing is durable
pub refused_by : (told : ℕ) (old new : IssueHalf) (outcome : Result Written Failed) (result : Result ℕ HallError)
    → IfErr result (IsNotDurable old new outcome) → IfErr result (IsCommitRefusal told)
refused_by told old new outcome (Ok durable) left = tt
refused_by told old new outcome (Err why) left = refused_settling told old new outcome why left
