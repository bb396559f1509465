-- What reading a file of keys says.
use Rattle.std.specs.Prelude.{◌≡◌, ℕ, List, Result, Ok, Err, ⊤}
use Rattle.signed_requests.specs.Keys.{Entry}
use Rattle.signed_requests.specs.declared.keys_file.KeysError.{KeysError}
use Rattle.signed_requests.specs.declared.keys_file.KeysError.TheVariants.{BadLine, OutOfMemory}

-- what the call returned, seen by view, is what reading gives, unless memory ran out
abbrev pub Reads : {X : Type 0} → (X → List Entry) → Result (List Entry) ℕ → Result X KeysError → Type 0
Reads view read (Ok keys) = read ≡ Ok (view keys)
Reads view read (Err (BadLine n)) = read ≡ Err n
Reads view read (Err OutOfMemory) = ⊤
