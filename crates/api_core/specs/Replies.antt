-- The reply of an answer: its status, its headers in their order, and the bytes of its body.
use Rattle.std.specs.Prelude.{ℕ, ◌≤◌, Bool, true, List, [], ◌∷◌, ◌++◌, codes, decimal, bytes_eq, if◌then◌else◌}
use Rattle.std.specs.List.{list_any}
use Prim.Native.String.{String}
use Rattle.retry_rules.specs.declared.settings.Settings.{Settings}
use Rattle.invoke_records.specs.Spelling.{greatest_moment}
use Rattle.invoke_records.specs.declared.row.EventRow.{EventRow}
use Rattle.async_core.specs.declared.choice.Side.TheVariants.{Success, Failure as Failed}
use Rattle.async_core.specs.Readers.{Ending, told}
use Rattle.async_core.specs.Tallies.{ended_at}
use Rattle.destination_json.specs.Json.{in_quotes, member, object}
use Rattle.destination_json.specs.Record.{id_text, latest, record_text}
use Rattle.api_core.specs.declared.dialect.Dialect.{Dialect}
use Rattle.api_core.specs.declared.dialect.Dialect.TheVariants.{Profile, Aws}
use Rattle.api_core.specs.declared.dialect.Audience.{Audience}
use Rattle.api_core.specs.declared.dialect.Audience.TheVariants.{Caller}
use Rattle.api_core.specs.declared.dialect.Stream.{Stream}
use Rattle.api_core.specs.declared.dialect.Stream.TheVariants.{Telemetry, Logs}
use Rattle.api_core.specs.declared.refusal.Refusal.{Refusal}
use Rattle.api_core.specs.declared.refusal.Refusal.TheVariants.{NotEnded, TooManyEvents}
use Rattle.api_core.specs.declared.reply.Reply.{Reply}
use Rattle.api_core.specs.declared.answer.Answer.{Answer}
use Rattle.api_core.specs.declared.answer.Answer.TheVariants as answer
use Rattle.api_core.specs.declared.dialect.Description.{Description}
use Rattle.api_core.specs.declared.dialect.Description.TheVariants.{DryRun, Function, Configuration}
use Rattle.api_core.specs.declared.answer.ShutdownReason.{ShutdownReason}
use Rattle.api_core.specs.declared.answer.ShutdownReason.TheVariants.{Spindown, Timeout, Failure}
use Rattle.api_core.specs.Dialect.{account_of}
use Rattle.api_core.specs.Refusals.{fault_of, error_object, error_text, error_name, service_object, service_message, full_message}
use Rattle.api_core.specs.Unanswered.{ending_told}

-- ## What is told, without references

pub data Told : Type 0 where
  accepted : List ℕ → Told
  accepted_async : List ℕ → Told
  record_of : Ending → Told
  no_record : Told
  deleted : List ℕ → Told
  not_ended : List ℕ → Told
  table_full : (successes failures : ℕ) → Told
  described : Description → Told
  taken : Told
  registered : (identifier : List ℕ) (with_account : Bool) → Told
  runtime_event : List ℕ → ℕ → List ℕ → Told
  invoke_event : List ℕ → ℕ → Told
  shutdown_event : ShutdownReason → ℕ → Told
  not_supported : Stream → Told
  refused : Audience → Refusal → Told

-- a table of these events is full
abbrev pub full_of : List EventRow → Told
full_of rows = table_full (ended_at Success rows) (ended_at Failed rows)

abbrev pub told_by : Answer → Told
told_by (answer.Accepted id) = accepted id
told_by (answer.AcceptedAsync id) = accepted_async id
told_by (answer.Record e) = record_of (told e)
told_by answer.NoRecord = no_record
told_by (answer.Deleted id) = deleted id
told_by (answer.NotEnded id) = not_ended id
told_by (answer.TableFull table) = full_of table.now.table.rows
told_by (answer.Described what) = described what
told_by answer.Taken = taken
told_by (answer.Registered identifier account) = registered identifier account
told_by (answer.RuntimeEvent id deadline payload) = runtime_event id deadline payload.now
told_by (answer.Invoke id deadline) = invoke_event id deadline
told_by (answer.Shutdown reason deadline) = shutdown_event reason deadline
told_by (answer.NotSupported stream) = not_supported stream
told_by (answer.Refusal who why) = refused who why

-- a record tells of a moment that has a text
abbrev pub IsTellable : Answer → Type 0
IsTellable (answer.Record e) = e.at ≤ greatest_moment
IsTellable other = Unit {0}

-- ## Headers and bodies

abbrev pub header : String → List ℕ → List ℕ × List ℕ
header name value = (codes name, value)

-- the id of a request: that of its event, where it has one
abbrev pub request_id : List ℕ → List ℕ × List ℕ
request_id id = header "X-Amzn-RequestId" (id_text id)

abbrev pub has_header : String → List (List ℕ × List ℕ) → Bool
has_header name headers = list_any (λ (h : List ℕ × List ℕ). bytes_eq h.0 (codes name)) headers

-- a reply without a body
abbrev pub bare : ℕ → List (List ℕ × List ℕ) → Reply
bare status headers = record { status = status; headers = headers; body = [] }

-- a reply with a body, whose type is the last header
abbrev pub with_json : ℕ → List (List ℕ × List ℕ) → List ℕ → Reply
with_json status headers body =
    record { status = status; headers = headers ++ header "Content-Type" (codes "application/json") ∷ []; body = body }

-- a reply that tells of an event, whose id it tells in a dialect that has that
abbrev pub of_event : Dialect → List ℕ → Reply → Reply
of_event Profile id reply = reply
of_event Aws id reply =
    record { status = reply.status; headers = reply.headers ++ request_id id ∷ []; body = reply.body }

-- a refusal in the words of AWS's services
abbrev pub service_reply : Refusal → List ℕ → Reply
service_reply why message =
    with_json (fault_of why).status (header "X-Amzn-ErrorType" (error_name why) ∷ []) (service_object why message)

-- a refusal, as it is told to callers and to environments
abbrev pub refusing : Dialect → Settings → Audience → Refusal → Reply
refusing Aws s Caller why = service_reply why (service_message s why)
refusing d s who why = with_json (fault_of why).status [] (error_text (fault_of why))

-- a caller is refused since the table is full, with so many records of each side in it
abbrev pub refusing_full : Dialect → Settings → (successes failures : ℕ) → Reply
refusing_full Profile s successes failures = refusing Profile s Caller TooManyEvents
refusing_full Aws s successes failures = service_reply TooManyEvents (full_message s successes failures)

-- what InvokeAsync tells of an event that is accepted
abbrev pub async_body : List ℕ
async_body = object (member "Status" (codes "202") ∷ [])

abbrev pub ok_body : List ℕ
ok_body = object (member "status" (in_quotes (codes "OK")) ∷ [])

-- ## The polls

-- no request is traced
abbrev pub trace_id : List ℕ
trace_id = codes "Root=1-00000000-000000000000000000000000;Sampled=0"

abbrev pub runtime_headers : Settings → List ℕ → ℕ → List (List ℕ × List ℕ)
runtime_headers s id deadline =
    header "Lambda-Runtime-Aws-Request-Id" (id_text id)
    ∷ header "Lambda-Runtime-Deadline-Ms" (decimal deadline)
    ∷ header "Lambda-Runtime-Invoked-Function-Arn" s.arn
    ∷ header "Lambda-Runtime-Trace-Id" trace_id
    ∷ []

abbrev pub tracing : List ℕ
tracing = object (
    member "type" (in_quotes (codes "X-Amzn-Trace-Id")) ∷ member "value" (in_quotes trace_id) ∷ []
    )

abbrev pub invoke_text : Settings → List ℕ → ℕ → List ℕ
invoke_text s id deadline = object (
    member "eventType" (in_quotes (codes "INVOKE"))
    ∷ member "deadlineMs" (decimal deadline)
    ∷ member "requestId" (in_quotes (id_text id))
    ∷ member "invokedFunctionArn" (in_quotes s.arn)
    ∷ member "tracing" tracing
    ∷ []
    )

abbrev pub reason_text : Dialect → ShutdownReason → List ℕ
reason_text Profile Spindown = codes "SPINDOWN"
reason_text Profile Timeout = codes "TIMEOUT"
reason_text Profile Failure = codes "FAILURE"
reason_text Aws Spindown = codes "spindown"
reason_text Aws Timeout = codes "timeout"
reason_text Aws Failure = codes "failure"

abbrev pub shutdown_text : Dialect → ShutdownReason → ℕ → List ℕ
shutdown_text d reason deadline = object (
    member "eventType" (in_quotes (codes "SHUTDOWN"))
    ∷ member "shutdownReason" (in_quotes (reason_text d reason))
    ∷ member "deadlineMs" (decimal deadline)
    ∷ []
    )

-- the account, where the extension accepts it and the ARN has one
abbrev pub account_member : List ℕ → List (List ℕ)
account_member [] = []
account_member (b ∷ account) = member "accountId" (in_quotes (b ∷ account)) ∷ []

abbrev pub account_members : Dialect → Settings → Bool → List (List ℕ)
account_members Aws s true = account_member (account_of s.arn)
account_members d s with_account = []

abbrev pub function_members : Settings → List (List ℕ)
function_members s =
    member "functionName" (in_quotes s.name)
    ∷ member "functionVersion" (in_quotes latest)
    ∷ member "handler" (in_quotes s.handler)
    ∷ []

-- what a registered extension is told of the function
abbrev pub function_text : Dialect → Settings → Bool → List ℕ
function_text d s with_account = object (function_members s ++ account_members d s with_account)

-- ## The function, as the public models of the Lambda API have it

abbrev pub configuration_text : Settings → List ℕ
configuration_text s = object (
    member "FunctionName" (in_quotes s.name)
    ∷ member "FunctionArn" (in_quotes s.arn)
    ∷ member "Handler" (in_quotes s.handler)
    ∷ member "Timeout" (decimal s.timeout)
    ∷ member "Version" (in_quotes latest)
    ∷ member "State" (in_quotes (codes "Active"))
    ∷ member "LastUpdateStatus" (in_quotes (codes "Successful"))
    ∷ []
    )

abbrev pub concurrency_text : Settings → List ℕ
concurrency_text s = object (member "ReservedConcurrentExecutions" (decimal s.concurrency) ∷ [])

abbrev pub described_text : Settings → List ℕ
described_text s = object (
    member "Configuration" (configuration_text s) ∷ member "Concurrency" (concurrency_text s) ∷ []
    )

abbrev pub describing : Settings → Description → Reply
describing s DryRun = bare 204 []
describing s Function = with_json 200 [] (described_text s)
describing s Configuration = with_json 200 [] (configuration_text s)

-- what is told of a stream that is not sent, as AWS's emulator has it
abbrev pub not_supported_text : Stream → List ℕ
not_supported_text Telemetry = error_object (codes "Telemetry API is not supported") (codes "Telemetry.NotSupported")
not_supported_text Logs = error_object (codes "Logs API is not supported") (codes "Logs.NotSupported")

-- ## The reply

abbrev pub reply_of_told : Dialect → Settings → Told → Reply
reply_of_told d s (accepted id) = bare 202 (request_id id ∷ [])
reply_of_told d s (accepted_async id) = with_json 202 (request_id id ∷ []) async_body
reply_of_told d s (record_of e) = of_event d e.id (with_json 200 [] (record_text s (ending_told d s e)))
reply_of_told d s no_record = bare 204 []
reply_of_told d s (deleted id) = of_event d id (bare 204 [])
reply_of_told d s (not_ended id) = of_event d id (refusing d s Caller NotEnded)
reply_of_told d s (table_full successes failures) = refusing_full d s successes failures
reply_of_told d s (described what) = describing s what
reply_of_told d s taken = with_json 202 [] ok_body
reply_of_told d s (registered identifier with_account) =
    with_json 200 (header "Lambda-Extension-Identifier" (id_text identifier) ∷ []) (function_text d s with_account)
reply_of_told d s (runtime_event id deadline payload) = with_json 200 (runtime_headers s id deadline) payload
reply_of_told d s (invoke_event id deadline) = with_json 200 [] (invoke_text s id deadline)
reply_of_told d s (shutdown_event reason deadline) = with_json 200 [] (shutdown_text d reason deadline)
reply_of_told d s (not_supported stream) = with_json 202 [] (not_supported_text stream)
reply_of_told d s (refused who why) = refusing d s who why

-- in which words, and of which function, replies tell
pub record Words : Type 0 where
  pub dialect : Dialect
  pub settings : Settings

abbrev pub reply_in : Words → Told → Reply
reply_in w told = reply_of_told w.dialect w.settings told

abbrev pub reply_text : Dialect → Settings → Answer → Reply
reply_text d s a = reply_of_told d s (told_by a)

-- ## The id of a request

-- a reply that tells of no event tells this id
abbrev pub with_request_id : List ℕ → Reply → Reply
with_request_id id reply =
    if has_header "X-Amzn-RequestId" reply.headers then reply
    else record { status = reply.status; headers = reply.headers ++ request_id id ∷ []; body = reply.body }
