-- The text of a destination record: what is told of an event that has ended.
use Rattle.std.specs.Prelude.{ℕ, List, [], ◌∷◌, ◌++◌, Option, option_map, if◌then◌else◌, codes, decimal}
use Rattle.std.specs.Str.Lossy.{utf8_lossy}
use Rattle.uuid.specs.Text.{hyphenated_text, lower}
use Rattle.json.specs.Print.{quoted}
use Rattle.retry_rules.specs.declared.settings.Settings.{Settings}
use Rattle.invoke_records.specs.declared.command.Command.{Command}
use Rattle.invoke_records.specs.declared.row.Outcome.{Outcome}
use Rattle.invoke_records.specs.declared.row.Outcome.TheVariants.{Success, RetriesExhausted, EventAgeExceeded}
use Rattle.invoke_records.specs.declared.row.Answer.{Answer}
use Rattle.invoke_records.specs.declared.row.Answer.TheVariants as answer
use Rattle.async_core.specs.Readers.{Ending, ending_after}
use Rattle.destination_json.specs.Json.{is_json, in_quotes, member, object}
use Rattle.destination_json.specs.Stamp.{stamp_text}

-- an id with its hyphens, in lower case
unfoldable pub id_text : List ℕ → List ℕ
id_text id = hyphenated_text lower id

-- the only version of a function
abbrev pub latest : List ℕ
latest = codes "$LATEST"

abbrev pub with_version : List ℕ → List ℕ
with_version name = name ++ (codes ":" ++ latest)

-- why an event ended
abbrev pub condition_text : Outcome → List ℕ
condition_text Success = codes "Success"
condition_text RetriesExhausted = codes "RetriesExhausted"
condition_text EventAgeExceeded = codes "EventAgeExceeded"

-- which event, of which function, why it ended, and how often it was started; the ARN of good settings needs no escape
abbrev pub request_context : Settings → Ending → List ℕ
request_context s e = object (
    member "requestId" (in_quotes (id_text e.id))
    ∷ member "functionArn" (in_quotes (with_version s.arn))
    ∷ member "condition" (in_quotes (condition_text e.outcome))
    ∷ member "approximateInvokeCount" (decimal e.starts)
    ∷ []
    )

-- an event that did not succeed tells of a function error
abbrev pub function_error : Outcome → List (List ℕ)
function_error Success = []
function_error outcome = member "functionError" (in_quotes (codes "Unhandled")) ∷ []

abbrev pub response_context : Outcome → List ℕ
response_context outcome = object (
    member "statusCode" (codes "200")
    ∷ member "executedVersion" (in_quotes latest)
    ∷ function_error outcome
    )

-- an answer that is JSON is copied; of any other the text is quoted
unfoldable pub answer_json : List ℕ → List ℕ
answer_json bytes = if is_json bytes then bytes else quoted (utf8_lossy bytes)

abbrev pub response_members : Outcome → List ℕ → List (List ℕ)
response_members outcome bytes =
    member "responseContext" (response_context outcome) ∷ member "responsePayload" (answer_json bytes) ∷ []

-- where a runtime answered, what it answered last
abbrev pub answer_members : Outcome → Answer → List (List ℕ)
answer_members outcome answer.None = []
answer_members outcome (answer.Response bytes) = response_members outcome bytes
answer_members outcome (answer.Error bytes) = response_members outcome bytes

-- the record of an event that has ended
unfoldable pub record_text : Settings → Ending → List ℕ
record_text s e = object (
    member "version" (in_quotes (codes "1.0"))
    ∷ member "timestamp" (in_quotes (stamp_text e.at))
    ∷ member "requestContext" (request_context s e)
    ∷ member "requestPayload" e.payload
    ∷ answer_members e.outcome e.answer
    )

-- the record of an event after a history, where its life has ended
abbrev pub record_in : Settings → List Command → List ℕ → Option (List ℕ)
record_in s history id = option_map (record_text s) (ending_after s id history)
