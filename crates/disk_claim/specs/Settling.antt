-- A barrier that gives what shows that it succeeded.
use Rattle.std.specs.Prelude.{Result, Ok, Err}

-- what is told of a call, whatever it gives
abbrev pub told : {T E : Type 0} → Result T E → Result (Unit {0}) E
told (Ok given) = Ok tt
told (Err why) = Err why
