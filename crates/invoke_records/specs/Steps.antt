-- What each private step of reading or writing gives. No public contract cites it.
use Rattle.std.specs.Prelude.{◌≡◌, ℕ, Bool, true, List, ◌++◌, Option, Result, Ok, Err}
use Rattle.invoke_records.specs.declared.command.Kind.{Kind}
use Rattle.invoke_records.specs.declared.command.Command.{Command}
use Rattle.invoke_records.specs.declared.row.EventRow.{EventRow}
use Rattle.invoke_records.specs.declared.row_fields.Life.{Life}
use Rattle.invoke_records.specs.declared.row_fields.Counts.{Counts}
use Rattle.invoke_records.specs.declared.head.Head.{Head}
use Rattle.invoke_records.specs.declared.error.RecordError.{RecordError}
use Rattle.invoke_records.specs.declared.writer.Writer.{Writer}
use Rattle.invoke_records.specs.Reading.{◌>>=◌, unless, sound, kind_at, body_at, standing_of, answer_of}

-- ## Reading

-- what is left to read, or the first fault that was met
abbrev pub Left : Type 0
Left = Result (List ℕ) RecordError

-- a value, and what is left behind it
abbrev pub beside : {A : Type 0} → A → Left → Result (A × List ℕ) RecordError
beside value (Ok rest) = Ok (value, rest)
beside value (Err e) = Err e

-- from what was left this value was read, in this way; behind a fault it is any value
abbrev pub Reads : {A : Type 0} → (List ℕ → Result (A × List ℕ) RecordError) → Left → A → Left → Type 0
Reads at old value new = beside value new ≡ (old >>= at)

-- a value that was made, and what is left behind it
abbrev pub with_rest : {A : Type 0} → Result A RecordError → List ℕ → Result (A × List ℕ) RecordError
with_rest (Ok value) rest = Ok (value, rest)
with_rest (Err e) rest = Err e

-- what is left, unless the test holds
abbrev pub refused : Bool → RecordError → Left → Left
refused bad why left = left >>= λ rest. unless bad why rest

-- what is left, unless there is a fault
abbrev pub refused_by : Option RecordError → Left → Left
refused_by fault left = left >>= λ rest. sound fault rest

-- the kind that a byte names, and all that is left
abbrev pub kind_behind : ℕ → List ℕ → Result (Kind × List ℕ) RecordError
kind_behind byte rest = kind_at byte >>= λ kind. Ok (kind, rest)

-- the command of this head, whose body is this
unfoldable pub command_of : Head → List ℕ → Result Command RecordError
command_of head body = do
  parts ← body_at head.kind body
  Ok (record { kind = parts.0; id = head.id; environment = head.environment; time = head.time; bytes = parts.1 })

-- the row of these fields, whose payload and answer are these
unfoldable pub row_of : Life → Counts → List ℕ → List ℕ → Result EventRow RecordError
row_of life counts payload text = do
  standing ← standing_of life
  given ← answer_of counts.answer text
  Ok (record {
    id = life.id;
    accepted = life.accepted;
    number = life.number;
    last_number = life.last_number;
    standing = standing;
    starts = counts.starts;
    failures = counts.failures;
    push_backs = counts.push_backs;
    policy = counts.policy;
    payload = payload;
    answer = given;
  })

-- ## Writing

-- where all is there now, it was before, and this was written behind it
abbrev pub Adds : List ℕ → Writer → Writer → Type 0
Adds text old new = new.is_whole ≡ true → (old.is_whole ≡ true) × (new.bytes.items ≡ old.bytes.items ++ text)
