-- What contracts see of a body that was read, or was not: its bytes, or why.
use Rattle.std.specs.Prelude.{ℕ, List, Result, Ok, Err, Vec}
use Rattle.std.specs.Global.{Global}

abbrev pub bytes_read : {E : Type 0} → Result (Vec ℕ Global) E → Result (List ℕ) E
bytes_read (Ok bytes) = Ok bytes.items
bytes_read (Err why) = Err why
