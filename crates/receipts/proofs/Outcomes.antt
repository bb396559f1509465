-- What an answer tells, by two things that hold of it.
use Rattle.std.specs.Prelude.{Result, Ok, Err, IfOk, IfErr}

module _ {T E : Type 0} where
  pub by_ok : (P Q R : T → Type 0) → ((x : T) → P x → Q x → R x) → (result : Result T E) → IfOk result P → IfOk result Q → IfOk result R
  by_ok P Q R both (Ok x) p q = both x p q
  by_ok P Q R both (Err e) p q = tt

  pub by_error : (P Q R : E → Type 0) → ((e : E) → P e → Q e → R e) → (result : Result T E) → IfErr result P → IfErr result Q → IfErr result R
  by_error P Q R both (Ok x) p q = tt
  by_error P Q R both (Err e) p q = both e p q
