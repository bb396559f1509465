-- Worked examples: settings, endings and their records, and histories that end so.
use Rattle.std.specs.Prelude.{ℕ, ◌+◌, List, [], ◌∷◌, ◌++◌, codes}
use Rattle.invoke_records.specs.declared.command.Command.{Command}
use Rattle.invoke_records.specs.declared.command.Kind.{Kind}
use Rattle.invoke_records.specs.declared.command.Kind.TheVariants.{Accept, Start, Succeed, Fail, Throttle, Interrupt, Expire}
use Rattle.invoke_records.specs.declared.command.Cause.TheVariants.{Reported, Timeout}
use Rattle.retry_rules.specs.declared.settings.Settings.{Settings}
use Rattle.invoke_records.specs.declared.row.Outcome.TheVariants.{Success, RetriesExhausted, EventAgeExceeded}
use Rattle.invoke_records.specs.declared.row.Answer.TheVariants as answer
use Rattle.async_core.specs.Readers.{Ending}

-- ## Settings

-- two retries, six hours, three seconds, and room for four events
abbrev pub usual : Settings
usual = record {
  retries = 2;
  age = 21600;
  timeout = 3;
  concurrency = 10;
  environments = 1;
  events = 4;
  payload = 1024;
  response = 1024;
  name = codes "my-function";
  handler = codes "app.main";
  arn = codes "arn:aws:lambda:us-east-2:123456789012:function:my-function";
}

-- one attempt at a time, of at most 15 minutes, for a minute
abbrev pub one_at_once : Settings
one_at_once = record usual { concurrency = 1; age = 60; timeout = 900 }

abbrev pub for_one_minute : Settings
for_one_minute = record usual { age = 60 }

abbrev pub no_retries : Settings
no_retries = record usual { retries = 0 }

-- ## Events that have ended

abbrev pub id : ℕ → List ℕ
id n = 0 ∷ 0 ∷ 0 ∷ 0 ∷ 0 ∷ 0 ∷ 64 ∷ 0 ∷ 128 ∷ 0 ∷ 0 ∷ 0 ∷ 0 ∷ 0 ∷ 0 ∷ n ∷ []

-- an event that was never started, and grew too old a minute after it was accepted
abbrev pub grown_old : Ending
grown_old = record { id = id 1; payload = codes "{}"; answer = answer.None; outcome = EventAgeExceeded; at = 1573755425568; starts = 0 }

-- an event whose first attempt answered these bytes
abbrev pub answered : List ℕ → Ending
answered bytes = record {
  id = id 2;
  payload = codes "{\"a\": 1}";
  answer = answer.Response bytes;
  outcome = Success;
  at = 1573755365568;
  starts = 1;
}

-- an event that was cut off once, and then answered `{}`
abbrev pub answered_again : Ending
answered_again = record { id = id 1; payload = codes "{}"; answer = answer.Response (codes "{}"); outcome = Success; at = 6500; starts = 2 }

-- what a failing function reports
abbrev pub message : List ℕ
message = codes "{\"errorMessage\":\"x\"}"

-- an event whose three attempts reported this
abbrev pub exhausted : Ending
exhausted = record { id = id 1; payload = codes "{}"; answer = answer.Error message; outcome = RetriesExhausted; at = 1181500; starts = 3 }

-- an event whose one attempt took too long
abbrev pub timed_out : Ending
timed_out = record { id = id 1; payload = codes "{}"; answer = answer.None; outcome = RetriesExhausted; at = 4000; starts = 1 }

-- ## Their records

-- of the event that has grown too old
abbrev pub grown_old_text : List ℕ
grown_old_text =
    codes "{\"version\":\"1.0\",\"timestamp\":\"2019-11-14T18:17:05.568Z\","
    ++ (codes "\"requestContext\":{\"requestId\":\"00000000-0000-4000-8000-000000000001\","
    ++ (codes "\"functionArn\":\"arn:aws:lambda:us-east-2:123456789012:function:my-function:$LATEST\","
    ++ (codes "\"condition\":\"EventAgeExceeded\",\"approximateInvokeCount\":0},"
    ++ codes "\"requestPayload\":{}}")))

-- of the first attempt that answered: this stands at the end
abbrev pub answered_text : List ℕ → List ℕ
answered_text response =
    codes "{\"version\":\"1.0\",\"timestamp\":\"2019-11-14T18:16:05.568Z\","
    ++ (codes "\"requestContext\":{\"requestId\":\"00000000-0000-4000-8000-000000000002\","
    ++ (codes "\"functionArn\":\"arn:aws:lambda:us-east-2:123456789012:function:my-function:$LATEST\","
    ++ (codes "\"condition\":\"Success\",\"approximateInvokeCount\":1},"
    ++ (codes "\"requestPayload\":{\"a\": 1},"
    ++ (codes "\"responseContext\":{\"statusCode\":200,\"executedVersion\":\"$LATEST\"},"
    ++ (codes "\"responsePayload\":" ++ (response ++ codes "}")))))))

-- of the event that was cut off once
abbrev pub answered_again_text : List ℕ
answered_again_text =
    codes "{\"version\":\"1.0\",\"timestamp\":\"1970-01-01T00:00:06.500Z\","
    ++ (codes "\"requestContext\":{\"requestId\":\"00000000-0000-4000-8000-000000000001\","
    ++ (codes "\"functionArn\":\"arn:aws:lambda:us-east-2:123456789012:function:my-function:$LATEST\","
    ++ (codes "\"condition\":\"Success\",\"approximateInvokeCount\":2},"
    ++ (codes "\"requestPayload\":{},"
    ++ (codes "\"responseContext\":{\"statusCode\":200,\"executedVersion\":\"$LATEST\"},"
    ++ codes "\"responsePayload\":{}}")))))

-- of the three attempts that reported an error
abbrev pub exhausted_text : List ℕ
exhausted_text =
    codes "{\"version\":\"1.0\",\"timestamp\":\"1970-01-01T00:19:41.500Z\","
    ++ (codes "\"requestContext\":{\"requestId\":\"00000000-0000-4000-8000-000000000001\","
    ++ (codes "\"functionArn\":\"arn:aws:lambda:us-east-2:123456789012:function:my-function:$LATEST\","
    ++ (codes "\"condition\":\"RetriesExhausted\",\"approximateInvokeCount\":3},"
    ++ (codes "\"requestPayload\":{},"
    ++ (codes "\"responseContext\":{\"statusCode\":200,\"executedVersion\":\"$LATEST\",\"functionError\":\"Unhandled\"},"
    ++ codes "\"responsePayload\":{\"errorMessage\":\"x\"}}")))))

-- of the attempt that took too long
abbrev pub timed_out_text : List ℕ
timed_out_text =
    codes "{\"version\":\"1.0\",\"timestamp\":\"1970-01-01T00:00:04.000Z\","
    ++ (codes "\"requestContext\":{\"requestId\":\"00000000-0000-4000-8000-000000000001\","
    ++ (codes "\"functionArn\":\"arn:aws:lambda:us-east-2:123456789012:function:my-function:$LATEST\","
    ++ (codes "\"condition\":\"RetriesExhausted\",\"approximateInvokeCount\":1},"
    ++ codes "\"requestPayload\":{}}")))

-- of the event that reported an error once, and then grew too old
abbrev pub failed_then_old_text : List ℕ
failed_then_old_text =
    codes "{\"version\":\"1.0\",\"timestamp\":\"1970-01-01T00:01:00.000Z\","
    ++ (codes "\"requestContext\":{\"requestId\":\"00000000-0000-4000-8000-000000000001\","
    ++ (codes "\"functionArn\":\"arn:aws:lambda:us-east-2:123456789012:function:my-function:$LATEST\","
    ++ (codes "\"condition\":\"EventAgeExceeded\",\"approximateInvokeCount\":1},"
    ++ (codes "\"requestPayload\":{},"
    ++ (codes "\"responseContext\":{\"statusCode\":200,\"executedVersion\":\"$LATEST\",\"functionError\":\"Unhandled\"},"
    ++ codes "\"responsePayload\":\"no\"}")))))

-- ## Histories

abbrev pub does : Kind → ℕ → ℕ → List ℕ → Command
does kind n time bytes = record { kind = kind; id = id n; environment = 0; time = time; bytes = bytes }

abbrev pub start : ℕ → ℕ → Command
start n time = record { kind = Start; id = id n; environment = 1; time = time; bytes = [] }

abbrev pub throttles : List ℕ → List Command → List Command
throttles [] later = later
throttles (time ∷ times) later = does Throttle 1 time [] ∷ throttles times later

-- one attempt at a time: another event runs, and this one is pushed back until it is too old
abbrev pub pushed_back : ℕ → List Command
pushed_back t =
    does Accept 2 t (codes "{}") ∷ start 2 t ∷ does Accept 1 t (codes "{}")
    ∷ throttles (t ∷ (t + 1000) ∷ (t + 3000) ∷ (t + 7000) ∷ (t + 15000) ∷ (t + 31000) ∷ []) (does Expire 1 (t + 60000) [] ∷ [])

-- an attempt that a stop cut off, and one that answered `{}`
abbrev pub cut_off : List Command
cut_off =
    does Accept 1 1000 (codes "{}") ∷ start 1 1000 ∷ does Interrupt 1 5000 [] ∷ start 1 6000
    ∷ does Succeed 1 6500 (codes "{}") ∷ []

-- three attempts that report an error half a second after they start
abbrev pub failed : List Command
failed =
    does Accept 1 1000000 (codes "{}")
    ∷ start 1 1000000 ∷ does (Fail Reported) 1 1000500 message
    ∷ start 1 1060500 ∷ does (Fail Reported) 1 1061000 message
    ∷ start 1 1181000 ∷ does (Fail Reported) 1 1181500 message
    ∷ []

-- one attempt that takes too long, where there are no retries
abbrev pub overdue : List Command
overdue = does Accept 1 1000 (codes "{}") ∷ start 1 1000 ∷ does (Fail Timeout) 1 4000 [] ∷ []

-- an event that reported an error once, and then grew too old
abbrev pub failed_then_old : List Command
failed_then_old =
    does Accept 1 0 (codes "{}") ∷ start 1 0 ∷ does (Fail Reported) 1 500 (codes "no") ∷ does Expire 1 60000 [] ∷ []
