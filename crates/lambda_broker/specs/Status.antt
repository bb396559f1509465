-- With which status of the program a serving ends.
use Rattle.std.specs.Prelude.{ℕ, Bool, true, false, Result, Ok, Err, if◌then◌else◌}
use Rattle.disk_claim.specs.declared.claiming.ClaimError.TheVariants as claim_error
use Rattle.broker_commands.specs.Status.{status_of_refusal}
use Rattle.broker_opening.specs.Faults.{is_opening_fault}
use Rattle.lambda_broker.specs.declared.serving.ServingError.{ServingError}
use Rattle.lambda_broker.specs.declared.serving.ServingError.TheVariants.{Opening, Claim, Broken, TakenOver}

abbrev pub is_device_fault : ServingError → Bool
is_device_fault (Opening why) = is_opening_fault why
is_device_fault (Claim claim_error.Fault) = true
is_device_fault Broken = true
is_device_fault other = false

-- another broker has taken the disk over
abbrev pub is_taken_over : ServingError → Bool
is_taken_over (Claim claim_error.Taken) = true
is_taken_over TakenOver = true
is_taken_over other = false

-- 0 where the broker was stopped, 4 where its disk was taken over, 3 where the device failed, else 1
abbrev pub status_of_serving : Result (Unit {0}) ServingError → ℕ
status_of_serving (Ok done) = 0
status_of_serving (Err why) = if is_taken_over why then 4 else status_of_refusal (is_device_fault why)
