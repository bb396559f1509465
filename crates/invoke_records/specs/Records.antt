-- What reading and writing promise of each kind of record, said once for all kinds.
use Rattle.std.specs.Prelude.{◌≡◌, ◌+◌, ◌≤◌, ℕ, List, ◌++◌, length, drop, None, Result, MatchResult}
use Rattle.retry_rules.specs.declared.settings.Settings.{Settings}
use Rattle.retry_rules.specs.Settings.{bad_field}
use Rattle.invoke_records.specs.declared.command.Command.{Command}
use Rattle.invoke_records.specs.declared.error.RecordError.{RecordError}
use Rattle.invoke_records.specs.declared.error.RecordError.TheVariants.{OutOfMemory}
use Rattle.invoke_records.specs.Spelling.{command_text, body_text}

-- settings that have a spelling
abbrev pub AreSettings : Settings → Type 0
AreSettings s = bad_field s ≡ None

-- where the spelling of a sound value stands in front of the bytes, reading finds that value and leaves what stands behind it,
-- unless memory runs out
abbrev pub Finds : {X Y : Type 0} → (X → Y) → (Y → Type 0) → (Y → List ℕ) → List ℕ → Result (X × ℕ) RecordError → Type 0
Finds {X} {Y} view IsSound text bytes result =
    (value : Y) (rest : List ℕ) → IsSound value → bytes ≡ text value ++ rest
    → MatchResult result (λ x. (view x.0 ≡ value) × (drop x.1 bytes ≡ rest)) (λ e. e ≡ OutOfMemory)

-- no spelling of a sound value begins another, and each is the spelling of one value
abbrev pub AreApart : {A : Type 0} → (A → Type 0) → (A → List ℕ) → Type 0
AreApart {A} IsSound text = (x y : A) (a b : List ℕ) → IsSound x → IsSound y → text x ++ a ≡ text y ++ b → (x ≡ y) × (a ≡ b)

-- a command's spelling is 31 bytes and its body, which has at most 1048576
abbrev pub HasCommandLength : Command → Type 0
HasCommandLength c = (length (command_text c) ≡ 31 + length (body_text c)) × (length (body_text c) ≤ 1048576)
