-- What the record of an event that no runtime answered tells in the dialect of AWS. A row keeps no cause of a failure, so its
-- words name each that there can be.
use Rattle.std.specs.Prelude.{ℕ, List, [], ◌∷◌, ◌++◌, codes, decimal, nat_lt, if◌then◌else◌}
use Rattle.retry_rules.specs.declared.settings.Settings.{Settings}
use Rattle.invoke_records.specs.declared.row.Answer.{Answer}
use Rattle.invoke_records.specs.declared.row.Answer.TheVariants as answer
use Rattle.invoke_records.specs.declared.row.Outcome.{Outcome}
use Rattle.invoke_records.specs.declared.row.Outcome.TheVariants.{EventAgeExceeded}
use Rattle.async_core.specs.Readers.{Ending}
use Rattle.destination_json.specs.Json.{in_quotes, member, object}
use Rattle.destination_json.specs.Record.{id_text}
use Rattle.api_core.specs.declared.dialect.Dialect.{Dialect}
use Rattle.api_core.specs.declared.dialect.Dialect.TheVariants.{Profile, Aws}

-- how it ends: the attempts of an event that grew too old may all have been cut off by the end of the broker
abbrev pub after_seconds : Outcome → List ℕ
after_seconds EventAgeExceeded = codes ".00 seconds, or the broker ended"
after_seconds outcome = codes ".00 seconds"

-- AWS's words for an exit, and those for a timeout
abbrev pub ended_message : Settings → Ending → List ℕ
ended_message s e =
    codes "RequestId: "
    ++ (id_text e.id ++ (codes " Process exited before completing request, or Task timed out after "
    ++ (decimal s.timeout ++ after_seconds e.outcome)))

-- an event that was never started grew too old
abbrev pub waited_message : Ending → List ℕ
waited_message e = codes "RequestId: " ++ (id_text e.id ++ codes " Event expired before its first attempt")

abbrev pub unanswered_message : Settings → Ending → List ℕ
unanswered_message s e = if nat_lt 0 e.starts then ended_message s e else waited_message e

-- the error in place of an answer
abbrev pub unanswered_text : Settings → Ending → List ℕ
unanswered_text s e = object (member "errorMessage" (in_quotes (unanswered_message s e)) ∷ [])

-- the event with that error
abbrev pub with_error : Settings → Ending → Ending
with_error s e = record e { answer = answer.Error (unanswered_text s e) }

-- an event has that error where it has no answer
abbrev pub where_unanswered : Settings → Ending → Answer → Ending
where_unanswered s e answer.None = with_error s e
where_unanswered s e other = e

-- what its record tells of an event
abbrev pub ending_told : Dialect → Settings → Ending → Ending
ending_told Profile s e = e
ending_told Aws s e = where_unanswered s e e.answer
