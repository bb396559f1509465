-- Worked examples: requests and what they ask, and replies as they are sent.
use Rattle.std.specs.Prelude.{ℕ, List, [], ◌∷◌, ◌++◌, Result, codes, replicate}
use Prim.Native.String.{String}
use Rattle.http_header.specs.FieldValue.{plain_value}
use Rattle.retry_rules.specs.declared.settings.Settings.{Settings}
use Rattle.invoke_records.specs.declared.row.Answer.TheVariants as answer
use Rattle.async_core.specs.Readers.{Ending}
use Rattle.destination_json.specs.Examples.{usual, grown_old}
use Rattle.api_core.specs.declared.dialect.Dialect.{Dialect}
use Rattle.api_core.specs.declared.dialect.Dialect.TheVariants.{Profile, Aws}
use Rattle.api_core.specs.declared.dialect.Audience.TheVariants.{Caller, Environment}
use Rattle.api_core.specs.declared.body.Body.TheVariants.{Whole, TooLarge}
use Rattle.api_core.specs.declared.call.Call.{Call}
use Rattle.api_core.specs.declared.refusal.Refusal.{Refusal}
use Rattle.api_core.specs.declared.reply.Reply.{Reply}
use Rattle.api_core.specs.Headers.{RequestHeaders}
use Rattle.api_core.specs.Requests.{call_of}
use Rattle.api_core.specs.Replies.{reply_of_told, refused}

-- ## Headers

abbrev pub with_header : String → String → RequestHeaders → RequestHeaders
with_header name value headers = (codes name, plain_value (codes value) ∷ []) ∷ headers

abbrev pub of_type : String → RequestHeaders
of_type value = with_header "x-amz-invocation-type" value []

abbrev pub event : RequestHeaders
event = of_type "Event"

-- an extension that tells this identifier, and one that tells a good one
abbrev pub identified : String → RequestHeaders
identified text = with_header "lambda-extension-identifier" text []

abbrev pub third : RequestHeaders
third = identified "00000000-0000-4000-8000-000000000003"

abbrev pub named : String → RequestHeaders
named name = with_header "lambda-extension-name" name []

-- ## Requests

-- settings whose payloads and responses have at most 8 bytes
abbrev pub small : Settings
small = record usual { payload = 8; response = 8 }

-- a request on a port
abbrev pub on : ℕ → String → String → RequestHeaders → List ℕ → Result Call Refusal
on port method target headers body = call_of Profile usual port (codes method) (codes target) headers (Whole body)

-- the same without headers and body
abbrev pub asks : ℕ → String → String → Result Call Refusal
asks port method target = on port method target [] []

-- an invocation of a function, behind whose path this stands
abbrev pub invocations : String → String → List ℕ
invocations name query = codes "/2015-03-31/functions/" ++ (codes name ++ (codes "/invocations" ++ codes query))

abbrev pub invoke_as : String → String → Result Call Refusal
invoke_as name query = call_of Profile usual 0 (codes "POST") (invocations name query) event (Whole [])

-- of the function that is there, with these headers and this body
abbrev pub invoke_with : Settings → RequestHeaders → List ℕ → Result Call Refusal
invoke_with s headers body = call_of Profile s 0 (codes "POST") (invocations "my-function" "") headers (Whole body)

-- in the dialect of AWS
abbrev pub invoke_aws : String → Result Call Refusal
invoke_aws name = call_of Aws usual 0 (codes "POST") (invocations name "") event (Whole [])

abbrev pub asks_aws : String → String → RequestHeaders → Result Call Refusal
asks_aws method target headers = call_of Aws usual 1 (codes method) (codes target) headers (Whole [])

-- a caller asks so
abbrev pub caller_asks_aws : String → String → RequestHeaders → Result Call Refusal
caller_asks_aws method target headers = call_of Aws usual 0 (codes method) (codes target) headers (Whole [])

-- the runtime of environment 1 tells of an attempt by this id
abbrev pub told_of : String → String → List ℕ
told_of id what = codes "/2018-06-01/runtime/invocation/" ++ (codes id ++ codes what)

-- a runtime tells a response that is too large
abbrev pub tells_too_much : Dialect → Settings → Result Call Refusal
tells_too_much d s = call_of d s 1 (codes "POST") (told_of "00000000-0000-4000-8000-000000000003" "/response") [] TooLarge

abbrev pub too_large_text : List ℕ
too_large_text =
    codes "{\"errorType\":\"Function.ResponseSizeTooLarge\","
    ++ codes "\"errorMessage\":\"Response payload size exceeded maximum allowed payload size (1024 bytes).\"}"

-- an extension that accepts these features registers
abbrev pub accepting : String → RequestHeaders
accepting features = with_header "lambda-extension-accept-feature" features (named "my-extension")

abbrev pub invoke : List ℕ → Result Call Refusal
invoke body = invoke_with usual event body

abbrev pub tells_in : Settings → String → List ℕ → Result Call Refusal
tells_in s what body = call_of Profile s 1 (codes "POST") (told_of "00000000-0000-4000-8000-000000000003" what) [] (Whole body)

abbrev pub tells : String → List ℕ → Result Call Refusal
tells what body = tells_in usual what body

-- an extension registers with this body
abbrev pub register : List ℕ → Result Call Refusal
register body = on 1 "POST" "/2020-01-01/extension/register" (named "my-extension") body

-- arrays within one another
abbrev pub nested : ℕ → List ℕ
nested n = replicate n 91 ++ replicate n 93

-- ## Replies

abbrev pub header : String → String → List ℕ × List ℕ
header name value = (codes name, codes value)

abbrev pub empty_reply : ℕ → List (List ℕ × List ℕ) → Reply
empty_reply status headers = record { status = status; headers = headers; body = [] }

abbrev pub json_reply : ℕ → List (List ℕ × List ℕ) → List ℕ → Reply
json_reply status headers body =
    record { status = status; headers = headers ++ header "Content-Type" "application/json" ∷ []; body = body }

abbrev pub accepted_headers : List (List ℕ × List ℕ)
accepted_headers = header "X-Amzn-RequestId" "00000000-0000-4000-8000-000000000001" ∷ []

abbrev pub registered_headers : List (List ℕ × List ℕ)
registered_headers = header "Lambda-Extension-Identifier" "00000000-0000-4000-8000-000000000003" ∷ []

-- what the runtime is told with an event
abbrev pub next_headers : List (List ℕ × List ℕ)
next_headers =
    header "Lambda-Runtime-Aws-Request-Id" "00000000-0000-4000-8000-000000000001"
    ∷ header "Lambda-Runtime-Deadline-Ms" "1573755368568"
    ∷ header "Lambda-Runtime-Invoked-Function-Arn" "arn:aws:lambda:us-east-2:123456789012:function:my-function"
    ∷ header "Lambda-Runtime-Trace-Id" "Root=1-00000000-000000000000000000000000;Sampled=0"
    ∷ []

abbrev pub account_text : List ℕ
account_text =
    codes "{\"functionName\":\"my-function\",\"functionVersion\":\"$LATEST\",\"handler\":\"app.main\",\"accountId\":\"123456789012\"}"

abbrev pub registered_text : List ℕ
registered_text = codes "{\"functionName\":\"my-function\",\"functionVersion\":\"$LATEST\",\"handler\":\"app.main\"}"

abbrev pub invoked_text : List ℕ
invoked_text =
    codes "{\"eventType\":\"INVOKE\",\"deadlineMs\":1573755368568,"
    ++ (codes "\"requestId\":\"00000000-0000-4000-8000-000000000001\","
    ++ (codes "\"invokedFunctionArn\":\"arn:aws:lambda:us-east-2:123456789012:function:my-function\","
    ++ codes "\"tracing\":{\"type\":\"X-Amzn-Trace-Id\",\"value\":\"Root=1-00000000-000000000000000000000000;Sampled=0\"}}"))

abbrev pub spindown_text : List ℕ
spindown_text = codes "{\"eventType\":\"SHUTDOWN\",\"shutdownReason\":\"SPINDOWN\",\"deadlineMs\":2000}"

abbrev pub timeout_text : List ℕ
timeout_text = codes "{\"eventType\":\"SHUTDOWN\",\"shutdownReason\":\"TIMEOUT\",\"deadlineMs\":2000}"

abbrev pub failure_text : List ℕ
failure_text = codes "{\"eventType\":\"SHUTDOWN\",\"shutdownReason\":\"FAILURE\",\"deadlineMs\":2000}"

-- what is told where a request is refused, and how it is to be told
abbrev pub refusal : Refusal → Reply
refusal why = reply_of_told Profile usual (refused Environment why)

abbrev pub error_reply : ℕ → String → String → Reply
error_reply status error_type message =
    json_reply status []
    (codes "{\"errorMessage\":\"" ++ (codes message ++ (codes "\",\"errorType\":\"" ++ (codes error_type ++ codes "\"}"))))

-- what is told of the function
abbrev pub configuration_shown : List ℕ
configuration_shown =
    codes "{\"FunctionName\":\"my-function\","
    ++ (codes "\"FunctionArn\":\"arn:aws:lambda:us-east-2:123456789012:function:my-function\",\"Handler\":\"app.main\","
    ++ codes "\"Timeout\":3,\"Version\":\"$LATEST\",\"State\":\"Active\",\"LastUpdateStatus\":\"Successful\"}")

abbrev pub function_shown : List ℕ
function_shown =
    codes "{\"Configuration\":"
    ++ (configuration_shown ++ codes ",\"Concurrency\":{\"ReservedConcurrentExecutions\":10}}")

-- a refusal for an event, with its id
abbrev pub not_ended_headers : List (List ℕ × List ℕ)
not_ended_headers =
    header "X-Amzn-ErrorType" "ResourceConflictException"
    ∷ header "Content-Type" "application/json"
    ∷ header "X-Amzn-RequestId" "00000000-0000-4000-8000-000000000001"
    ∷ []

-- the same to a caller, in the dialect of AWS
abbrev pub refusal_aws : Refusal → Reply
refusal_aws why = reply_of_told Aws usual (refused Caller why)

abbrev pub service_reply : ℕ → String → String → String → Reply
service_reply status blamed name message =
    json_reply status (header "X-Amzn-ErrorType" name ∷ [])
    (codes "{\"Type\":\"" ++ (codes blamed ++ (codes "\",\"message\":\"" ++ (codes message ++ (codes "\",\"Message\":\""
    ++ (codes message ++ codes "\"}"))))))

abbrev pub not_found_text : List ℕ
not_found_text = codes "{\"errorMessage\":\"no such path or function\",\"errorType\":\"NotFound\"}"

-- ## Events without an answer

-- an event that was started once, and grew too old
abbrev pub tried_then_old : Ending
tried_then_old = record grown_old { starts = 1 }

-- the event with this error as its answer
abbrev pub with_answer : Ending → String → Ending
with_answer e text = record e { answer = answer.Error (codes text) }

-- the record of the event that was never started, in the dialect of AWS
abbrev pub waited_text : List ℕ
waited_text =
    codes "{\"version\":\"1.0\",\"timestamp\":\"2019-11-14T18:17:05.568Z\","
    ++ (codes "\"requestContext\":{\"requestId\":\"00000000-0000-4000-8000-000000000001\","
    ++ (codes "\"functionArn\":\"arn:aws:lambda:us-east-2:123456789012:function:my-function:$LATEST\","
    ++ (codes "\"condition\":\"EventAgeExceeded\",\"approximateInvokeCount\":0},"
    ++ (codes "\"requestPayload\":{},"
    ++ (codes "\"responseContext\":{\"statusCode\":200,\"executedVersion\":\"$LATEST\",\"functionError\":\"Unhandled\"},"
    ++ (codes "\"responsePayload\":{\"errorMessage\":\"RequestId: 00000000-0000-4000-8000-000000000001"
    ++ codes " Event expired before its first attempt\"}}"))))))
