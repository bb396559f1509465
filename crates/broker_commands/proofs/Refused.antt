-- Why a disk was not opened, whether it is handed back or not.
use Rattle.std.proofs.Common.{◌≡◌, Result, Ok, Err, IfErr, subst}
use Rattle.std.specs.Prelude.{is_ok}
use Rattle.checkpoint.specs.declared.error.OpenError.{OpenError}
use Rattle.broker_core.specs.declared.error.OpenFailure.{OpenFailure}

pub refused_as : {B D : Type 0} (P : OpenError → Type 0) (result : Result B OpenError) (opened : Result B (OpenFailure D))
    → IfErr result (λ cause. IfErr opened (λ failure. failure.cause ≡ cause)) → is_ok result ≡ is_ok opened
    → IfErr opened (λ failure. P failure.cause) → IfErr result P
refused_as P (Ok broker) opened cause same is = tt
refused_as P (Err why) (Ok broker) cause same is = absurd cc
refused_as P (Err why) (Err failure) cause same is = subst P cause is
