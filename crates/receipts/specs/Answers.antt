-- What the calls of an office answer to a desk.
use Rattle.std.specs.Prelude.{◌≡◌, ℕ, ◌+◌, ◌*◌, ◌<◌, ◌≤◌, ◌^◌, List, [], ◌∷◌, ◌++◌, Option, Some, None, ◌⊎◌}
use Rattle.api_core.specs.declared.call.Call.{Call}
use Rattle.hall_plans.specs.declared.error.HallError.{HallError}
use Rattle.hall_plans.specs.declared.error.HallError.TheVariants as error
use Rattle.hall_plans.specs.Asked.{AsksFor}
use Rattle.receipts.specs.declared.mark.Mark.{Mark}

-- one mark came to those of this desk, with this number
abbrev pub AddsOne : ℕ → List Mark → List Mark → ℕ → Type 0
AddsOne desk old new number = (mark : Mark) × (new ≡ old ++ mark ∷ []) × (mark.number ≡ number) × (mark.desk ≡ desk)

-- one mark came to those of this desk, with this number, or none did
abbrev pub AddsAtMostOne : ℕ → List Mark → List Mark → ℕ → Type 0
AddsAtMostOne desk old new number = (new ≡ old) ⊎ AddsOne desk old new number

-- a tick that answers a number added its mark, one that answers none added none
abbrev pub AddsAnswered : ℕ → List Mark → List Mark → Option ℕ → Type 0
AddsAnswered desk old new (Some number) = AddsOne desk old new number
AddsAnswered desk old new None = new ≡ old

-- the number is not below what was told before, and is what is told now
abbrev pub IsToldMore : ℕ → ℕ → ℕ → Type 0
IsToldMore old new number = (old ≤ number) × (new ≡ number)

-- the same of a tick: one that answers none told nothing
abbrev pub IsToldIfAny : ℕ → ℕ → Option ℕ → Type 0
IsToldIfAny old new (Some number) = IsToldMore old new number
IsToldIfAny old new None = new ≡ old

-- the slot is one of this desk
abbrev pub IsSlotOf : ℕ → ℕ → Type 0
IsSlotOf desk slot = (k : ℕ) × (k < 2 ^ 58) × (slot ≡ 32 * k + desk)

-- a mark that came to those of a desk is of a command that this request may have, for which this id was drawn
abbrev pub AddsAsked : List ℕ → Call → List Mark → List Mark → Type 0
AddsAsked drawn call old new = (new ≡ old) ⊎ ((mark : Mark) × (new ≡ old ++ mark ∷ []) × AsksFor drawn call mark.kind mark.id)

-- ## Refusals

-- fewer commands were issued than the desk was told, which is what is answered
abbrev pub IsMismatch : ℕ → ℕ → HallError → Type 0
IsMismatch told found (error.Mismatch before issued) = (before ≡ told) × (issued ≡ found) × (found < told)
IsMismatch told found other = ⊥

-- a request of a desk that was told so much is refused with a number below that, and never as a commit is
abbrev pub IsArrivalRefusal : ℕ → HallError → Type 0
IsArrivalRefusal told (error.Mismatch before found) = (before ≡ told) × (found < told)
IsArrivalRefusal told error.Fault = ⊥
IsArrivalRefusal told error.Lent = ⊥
IsArrivalRefusal told error.OtherHalf = ⊥
IsArrivalRefusal told error.BadKind = ⊥
IsArrivalRefusal told other = Unit {0}

-- the same of a tick, which fits always and goes on while the broker stops
abbrev pub IsTickRefusal : ℕ → HallError → Type 0
IsTickRefusal told (error.Mismatch before found) = (before ≡ told) × (found < told)
IsTickRefusal told error.Fault = ⊥
IsTickRefusal told error.Lent = ⊥
IsTickRefusal told error.OtherHalf = ⊥
IsTickRefusal told error.BadKind = ⊥
IsTickRefusal told error.Stopping = ⊥
IsTickRefusal told error.Unfit = ⊥
IsTickRefusal told other = Unit {0}

-- a commit of a desk that was told so much is refused with a number below that, and never as a request is
abbrev pub IsCommitRefusal : ℕ → HallError → Type 0
IsCommitRefusal told (error.Mismatch before found) = (before ≡ told) × (found < told)
IsCommitRefusal told error.Stopping = ⊥
IsCommitRefusal told error.NoHistory = ⊥
IsCommitRefusal told error.Unfit = ⊥
IsCommitRefusal told other = Unit {0}
