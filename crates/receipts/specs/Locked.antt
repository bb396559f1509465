-- The hall under the lock, as its marks see it, and what its calls tell.
use Rattle.std.specs.Prelude.{◌≡◌, ◌⊎◌, ℕ, ◌≤◌, Option, Some, None}
use Rattle.hall_core.specs.declared.hall.Hall.{Hall}
use Rattle.hall_plans.specs.declared.issued.Issued.{Issued}
use Rattle.broker_core.specs.declared.issuer.Issuer.{Ghosts}
use Rattle.broker_core.specs.declared.issue_half.IssueHalf.{IssueHalf}
use Rattle.broker_core.specs.Issuer.{IssuerView, issued_in}
use Rattle.broker_core.specs.IssuerHalf.{half_view}
use Rattle.broker_core.specs.Batch.{last_of}
use Rattle.hall_core.specs.Hall.{HallView, view_of}
use Rattle.receipts.specs.declared.locked.Loan.{Loan}
use Rattle.receipts.specs.declared.locked.Loan.TheVariants.{Nothing, Out}
use Rattle.hall_plans.specs.declared.error.HallError.{HallError}
use Rattle.hall_core.specs.Halves.{IsNotLent}
use Rattle.receipts.specs.Answers.{IsToldMore, IsMismatch}

-- the hall as its contracts see it
abbrev pub hall_in : {g : Ghosts IssueHalf} → Hall IssueHalf g → HallView
hall_in hall = view_of half_view hall

-- its issuer
abbrev pub issuer_in : {g : Ghosts IssueHalf} → Hall IssueHalf g → IssuerView
issuer_in hall = (view_of half_view hall).issuer

abbrev pub number_of : Issued → ℕ
number_of issued = issued.number

-- the number of what was issued, if something was
abbrev pub either_number : ℕ → Option Issued → ℕ
either_number otherwise (Some issued) = issued.number
either_number otherwise None = otherwise

-- where nothing is lent, so much is durable and told; what is lent goes at least as far as what was told
abbrev pub IsToldByLoan : ℕ → ℕ → Loan → Type 0
IsToldByLoan old new (Nothing durable) = IsToldMore old new durable
IsToldByLoan old new (Out batch) = (old ≤ last_of batch) × (new ≡ old)

-- nothing was lent to a desk that was told so much: fewer commands were issued, or else the half has a reason
abbrev pub IsNotLentTo : ℕ → IssueHalf → HallError → Type 0
IsNotLentTo told half why =
    IsMismatch told (issued_in (half_view half)) why ⊎ ((told ≤ issued_in (half_view half)) × IsNotLent half why)
