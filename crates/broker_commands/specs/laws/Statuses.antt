-- Which statuses there are.
use Rattle.std.proofs.Common.{arith, ◌≡◌, ◌≤◌, ℕ, Bool, true, false, Result, Ok, Err, refl, sym, subst, inl, inr}
use Rattle.std.specs.Prelude.{IfOk}
use Rattle.audit_report.specs.declared.report.Older.{Older}
use Rattle.audit_report.specs.declared.report.Older.TheVariants as older
use Rattle.broker_commands.specs.declared.auditing.Audit.{Audit}
use Rattle.broker_commands.specs.declared.auditing.AuditError.{AuditError}
use Rattle.broker_commands.specs.Auditing.{is_device_fault, status_for}
use Rattle.broker_commands.specs.Status.{status_of_refusal, status_after, status_of_audit, IsJobStatus}

-- what holds of a status holds of what is answered as it
pub is_status : {E : Type 0} (P : ℕ → Type 0) (result : Result ℕ E) (status : ℕ) → P status → IfOk result (λ s. s ≡ status) → IfOk result P
is_status P (Ok s) status is same = subst P (sym same) is
is_status P (Err why) status is same = tt

-- and what follows from it
pub if_status : {E : Type 0} (P Q : ℕ → Type 0) (result : Result ℕ E) → ((s : ℕ) → P s → Q s) → IfOk result P → IfOk result Q
if_status P Q (Ok s) step is = step s is
if_status P Q (Err why) step is = tt

pub at_most : (status : ℕ) → IsJobStatus status → status ≤ 3
at_most status (inl is) = omega (arith, is)
at_most status (inr (inl is)) = omega (arith, is)
at_most status (inr (inr is)) = omega (arith, is)

pub of_refusal : (is_fault : Bool) → IsJobStatus (status_of_refusal is_fault)
of_refusal true = inr (inr refl)
of_refusal false = inr (inl refl)

pub of_job : {T E : Type 0} (is_fault : E → Bool) (outcome : Result T E) → IsJobStatus (status_after is_fault outcome)
of_job is_fault (Ok done) = inl refl
of_job is_fault (Err why) = of_refusal (is_fault why)

of_older : (told : Older) → IsJobStatus (status_for told)
of_older older.Differs = inr (inl refl)
of_older other = inl refl

pub of_audit : (outcome : Result Audit AuditError) → IsJobStatus (status_of_audit outcome)
of_audit (Ok audit) = of_older audit.report.older
of_audit (Err why) = of_refusal (is_device_fault why)
