-- Facts of what a call answered, carried over to what its caller answers.
use Rattle.std.proofs.Common.{◌≡◌, Result, Ok, Err, subst}
use Rattle.std.specs.Prelude.{IfOk, IfErr, is_ok}

-- a fact of what is Ok, and what follows from it
pub if_ok : {T E : Type 0} (P Q : T → Type 0) (r : Result T E) → ((x : T) → P x → Q x) → IfOk r P → IfOk r Q
if_ok P Q (Ok x) step is = step x is
if_ok P Q (Err e) step is = tt

-- a fact of an error, and what follows from it
pub if_err : {T E : Type 0} (P Q : E → Type 0) (r : Result T E) → ((e : E) → P e → Q e) → IfErr r P → IfErr r Q
if_err P Q (Ok x) step is = tt
if_err P Q (Err e) step is = step e is

-- what holds of each error
pub any_err : {T E : Type 0} (Q : E → Type 0) (r : Result T E) → ((e : E) → Q e) → IfErr r Q
any_err Q (Ok x) all = tt
any_err Q (Err e) all = all e

-- two facts of what is Ok
pub if_ok_both : {T E : Type 0} (P Q R : T → Type 0) (r : Result T E) → ((x : T) → P x → Q x → R x) → IfOk r P → IfOk r Q → IfOk r R
if_ok_both P Q R (Ok x) step p q = step x p q
if_ok_both P Q R (Err e) step p q = tt

-- what is Ok was Ok before
pub ok_from : {T E F : Type 0} (P : T → Type 0) (before : Result T F) (after : Result T E) → IfOk after (λ x. before ≡ Ok x) → IfOk before P → IfOk after P
ok_from P before (Ok x) same is = subst (λ (r : Result _ _). IfOk r P) same is
ok_from P before (Err e) same is = tt

-- what is an error was one before, with this cause
pub err_from : {T E F : Type 0} (cause : F → E) (P : E → Type 0) (before : Result T F) (after : Result T E) → IfErr after (λ e. IfErr before (λ f. cause f ≡ e)) → is_ok after ≡ is_ok before
    → IfErr before (λ f. P (cause f)) → IfErr after P
err_from cause P before (Ok x) same ok is = tt
err_from cause P (Ok x) (Err e) same ok is = absurd cc
err_from cause P (Err f) (Err e) same ok is = subst P same is
