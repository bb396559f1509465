-- Worked examples: the rows of six events, and what is shown of them.
use Rattle.std.specs.Prelude.{ℕ, ◌*◌, List, [], ◌∷◌, ◌++◌, Some, codes}
use Rattle.invoke_records.specs.declared.row.EventRow.{EventRow}
use Rattle.invoke_records.specs.declared.row.Answer.TheVariants as answer
use Rattle.invoke_records.specs.declared.row.Outcome.TheVariants.{Success, RetriesExhausted, EventAgeExceeded}
use Rattle.invoke_records.specs.declared.row.Standing.{Standing}
use Rattle.invoke_records.specs.declared.row.Standing.TheVariants.{Waiting, DueAgain, Running, Ended}
use Rattle.destination_json.specs.Examples.{id}
use Rattle.operator_view.specs.declared.numbers.Census.{Census}
use Rattle.operator_view.specs.declared.numbers.Tally.{Tally}

-- the n-th event, accepted n seconds after 1970, which command number `last` named last
abbrev pub event_row : ℕ → ℕ → Standing → EventRow
event_row n last standing = record {
  id = id n;
  accepted = 1000 * n;
  number = n;
  last_number = last;
  standing = standing;
  starts = 1;
  failures = 0;
  push_backs = 0;
  policy = record { retries = 2; age = 21600 };
  payload = codes "{}";
  answer = answer.None;
}

-- in the order of acceptance; those that ended did so in the order 4, 1, 6
abbrev pub rows : List EventRow
rows =
    event_row 1 9 (Ended Success 6500)
    ∷ event_row 2 6 (Running 1 5000)
    ∷ event_row 3 3 (Waiting 3000)
    ∷ event_row 4 7 (Ended EventAgeExceeded 5500)
    ∷ event_row 5 8 (DueAgain 8000)
    ∷ event_row 6 10 (Ended RetriesExhausted 7000)
    ∷ []

abbrev pub numbers : Census
numbers = record {
  held = 6;
  waiting = 1;
  due_again = 1;
  running = 1;
  success = 1;
  retries_exhausted = 1;
  event_age_exceeded = 1;
}

-- when the fifth is due again
abbrev pub tallied : Tally
tallied = record {
  census = numbers;
  oldest_waiting = Some 3000;
  oldest_record = Some 5500;
  first_due = Some 3000;
  due = 2;
  expiring = 0;
  first_deadline = Some 5000;
  last_moment = 8000;
}

-- ## Texts

-- of the event that runs
abbrev pub running_text : List ℕ
running_text =
    codes "{\"id\":\"00000000-0000-4000-8000-000000000002\",\"standing\":\"running\",\"accepted\":2000,\"moment\":5000,"
    ++ codes "\"environment\":1,\"starts\":1,\"failures\":0,\"pushbacks\":0,\"retries\":2,\"age\":21600,\"payloadBytes\":2,\"answerBytes\":0}"

-- of the event that is due again
abbrev pub due_again_text : List ℕ
due_again_text =
    codes "{\"id\":\"00000000-0000-4000-8000-000000000005\",\"standing\":\"due again\",\"accepted\":5000,\"moment\":8000,"
    ++ codes "\"environment\":null,\"starts\":1,\"failures\":0,\"pushbacks\":0,\"retries\":2,\"age\":21600,\"payloadBytes\":2,\"answerBytes\":0}"

-- a page of both, behind which more come
abbrev pub page_text : List ℕ
page_text =
    codes "{\"events\":["
    ++ (running_text ++ (codes "," ++ (due_again_text ++ codes "],\"next\":\"00000000-0000-4000-8000-000000000005\"}")))

-- the event that has grown too old, with a payload that has quotes
abbrev pub grown_old : EventRow
grown_old = record {
  id = id 1;
  accepted = 1573755365568;
  number = 1;
  last_number = 7;
  standing = Ended EventAgeExceeded 1573755425568;
  starts = 0;
  failures = 0;
  push_backs = 6;
  policy = record { retries = 0; age = 60 };
  payload = codes "{\"a\":1}";
  answer = answer.None;
}

abbrev pub grown_old_text : List ℕ
grown_old_text =
    codes "{\"id\":\"00000000-0000-4000-8000-000000000001\",\"standing\":\"ended EventAgeExceeded\","
    ++ (codes "\"accepted\":1573755365568,\"moment\":1573755425568,\"environment\":null,\"starts\":0,\"failures\":0,"
    ++ (codes "\"pushbacks\":6,\"retries\":0,\"age\":60,\"payloadBytes\":7,\"answerBytes\":0,"
    ++ (codes "\"payload\":\"{\\\"a\\\":1}\",\"lastError\":null,\"record\":"
    ++ (codes "{\"version\":\"1.0\",\"timestamp\":\"2019-11-14T18:17:05.568Z\","
    ++ (codes "\"requestContext\":{\"requestId\":\"00000000-0000-4000-8000-000000000001\","
    ++ (codes "\"functionArn\":\"arn:aws:lambda:us-east-2:123456789012:function:my-function:$LATEST\","
    ++ (codes "\"condition\":\"EventAgeExceeded\",\"approximateInvokeCount\":0},"
    ++ codes "\"requestPayload\":{\"a\":1}}}")))))))
