-- What a call that may lack memory says of a judgement.
use Rattle.std.specs.Prelude.{◌≡◌, Result, Ok, Err, ⊤}
use Rattle.signed_requests.specs.declared.refusal.Refusal.{Refusal}
use Rattle.signed_requests.specs.declared.refusal.JudgeError.{JudgeError}
use Rattle.signed_requests.specs.declared.refusal.JudgeError.TheVariants.{Refused, OutOfMemory}

abbrev pub Says : {A B : Type 0} → (A → B) → Result B Refusal → Result A JudgeError → Type 0
Says view judged (Ok x) = judged ≡ Ok (view x)
Says view judged (Err (Refused why)) = judged ≡ Err why
Says view judged (Err OutOfMemory) = ⊤
