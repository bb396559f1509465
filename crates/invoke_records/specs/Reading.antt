-- Reading a record from the front of some bytes, with the first fault that is met.
use Rattle.std.specs.Prelude.{◌≡◌, ℕ, zero, suc, ◌+◌, ◌==◌, Bool, not, ◌||◌, nat_lt, List, [], ◌∷◌, length, take, drop, Option, Some, None, Result, Ok, Err, if◌then◌else◌}
use Rattle.std.specs.List.{list_all}
use Rattle.std.specs.Int.{Width, w16, w32, w64, byte_len, from_be_bytes}
use Rattle.invoke_records.specs.declared.command.Cause.TheVariants.{Reported, Timeout, Exited}
use Rattle.invoke_records.specs.declared.command.Kind.{Kind}
use Rattle.invoke_records.specs.declared.command.Kind.TheVariants.{Accept, Start, Succeed, Fail, Throttle, Interrupt, Expire, Collect, Configure}
use Rattle.invoke_records.specs.declared.command.Command.{Command}
use Rattle.retry_rules.specs.declared.policy.RetryPolicy.{RetryPolicy}
use Rattle.retry_rules.specs.declared.settings.Settings.{Settings}
use Rattle.retry_rules.specs.Settings.{is_outside, is_name_byte, is_plain_byte}
use Rattle.invoke_records.specs.declared.limits.Limits.{Limits}
use Rattle.invoke_records.specs.declared.row.Outcome.{Outcome}
use Rattle.invoke_records.specs.declared.row.Outcome.TheVariants.{Success, RetriesExhausted, EventAgeExceeded}
use Rattle.invoke_records.specs.declared.row.Standing.{Standing}
use Rattle.invoke_records.specs.declared.row.Standing.TheVariants as standing
use Rattle.invoke_records.specs.declared.row.Answer.{Answer}
use Rattle.invoke_records.specs.declared.row.Answer.TheVariants as answer
use Rattle.invoke_records.specs.declared.row.EventRow.{EventRow}
use Rattle.invoke_records.specs.declared.row_fields.Life.{Life}
use Rattle.invoke_records.specs.declared.row_fields.Counts.{Counts}
use Rattle.invoke_records.specs.declared.snapshot.Snapshot.{Snapshot}
use Rattle.invoke_records.specs.declared.version.Version.{Version}
use Rattle.invoke_records.specs.declared.version.Version.TheVariants.{One, Two}
use Rattle.invoke_records.specs.declared.error.RecordError.{RecordError}
use Rattle.invoke_records.specs.declared.error.RecordError.TheVariants as fault
use Rattle.invoke_records.specs.declared.head.Head.{Head}
use Rattle.invoke_records.specs.Spelling.{is_bad_environment, is_bad_id, detail_text, least_bytes, most_bytes, greatest_moment, greatest_number, are_in_order}
use Rattle.invoke_records.specs.Versions.{most_payload}

infixl 10 ◌>>=◌
abbrev pub ◌>>=◌ : {A B : Type 0} → Result A RecordError → (A → Result B RecordError) → Result B RecordError
(Ok x) >>= f = f x
(Err e) >>= f = Err e

-- what a function returned, seen by view, is what reading gives, unless memory ran out, which may be in front of a fault
abbrev pub Fails : {Y : Type 0} → RecordError → Result Y RecordError → Type 0
Fails fault.OutOfMemory read = Unit {0}
Fails fault.Truncated read = read ≡ Err fault.Truncated
Fails fault.BadKind read = read ≡ Err fault.BadKind
Fails fault.TooLong read = read ≡ Err fault.TooLong

abbrev pub Gives : {X Y : Type 0} → (X → Y) → Result X RecordError → Result Y RecordError → Type 0
Gives view (Ok x) read = read ≡ Ok (view x)
Gives view (Err e) read = Fails e read

-- it is what reading gives, seen by view, or why reading gives nothing
abbrev pub IsRead : {X Y : Type 0} → (X → Y) → Result X RecordError → Result Y RecordError → Type 0
IsRead view (Ok x) read = read ≡ Ok (view x)
IsRead view (Err e) read = read ≡ Err e

-- why it was not read: the first fault, or want of memory where there is none
abbrev pub Misses : {Y : Type 0} → RecordError → Result Y RecordError → Type 0
Misses e (Ok y) = e ≡ fault.OutOfMemory
Misses e (Err why) = e ≡ why

-- it is what reading gives, or why it was not read
abbrev pub Decodes : {X Y : Type 0} → (X → Y) → Result X RecordError → Result Y RecordError → Type 0
Decodes view (Ok x) read = read ≡ Ok (view x)
Decodes view (Err e) read = Misses e read

-- it is this value, unless the test holds
abbrev pub unless : {A : Type 0} → Bool → RecordError → A → Result A RecordError
unless bad e x = if bad then Err e else Ok x

-- ## Fields: a value, and the bytes behind it

abbrev pub byte_at : List ℕ → Result (ℕ × List ℕ) RecordError
byte_at [] = Err fault.Truncated
byte_at (byte ∷ rest) = Ok (byte, rest)

-- so many bytes
abbrev pub bytes_at : ℕ → List ℕ → Result (List ℕ × List ℕ) RecordError
bytes_at n bytes = if nat_lt (length bytes) n then Err fault.Truncated else Ok (take n bytes, drop n bytes)

abbrev pub number_at : Width → List ℕ → Result (ℕ × List ℕ) RecordError
number_at w bytes =
    if nat_lt (length bytes) (byte_len w) then Err fault.Truncated
    else Ok (from_be_bytes w (take (byte_len w) bytes), drop (byte_len w) bytes)

-- a byte within these bounds
unfoldable pub small_at : ℕ → ℕ → List ℕ → Result (ℕ × List ℕ) RecordError
small_at least most bytes = do
  n ← byte_at bytes
  unless (is_outside least most n.0) fault.BadKind n

-- a number within these bounds
unfoldable pub limit_at : Width → ℕ → ℕ → List ℕ → Result (ℕ × List ℕ) RecordError
limit_at w least most bytes = do
  n ← number_at w bytes
  unless (is_outside least most n.0) fault.BadKind n

-- a retry policy within its ranges
unfoldable pub policy_at : List ℕ → Result (RetryPolicy × List ℕ) RecordError
policy_at bytes = do
  retries ← small_at 0 2 bytes
  age ← limit_at w32 60 21600 retries.1
  Ok (record { retries = retries.0; age = age.0 }, age.1)

-- the retry policy of a row or a snapshot: in version 1 there is none, and it is given this one
abbrev pub policy_in : Version → List ℕ → Result (RetryPolicy × List ℕ) RecordError
policy_in (One policy) bytes = Ok (policy, bytes)
policy_in Two bytes = policy_at bytes

-- ## Commands

-- the retry policy of a Configure, until it is read
abbrev pub no_policy : RetryPolicy
no_policy = record { retries = 0; age = 0 }

-- the kind that a byte names; the cause of a Fail comes with its bytes, and is Reported until then, as a Configure's policy is none
abbrev pub kind_at : ℕ → Result Kind RecordError
kind_at byte =
    if byte == 1 then Ok Accept
    else if byte == 2 then Ok Start
    else if byte == 3 then Ok Succeed
    else if byte == 4 then Ok (Fail Reported)
    else if byte == 5 then Ok Throttle
    else if byte == 6 then Ok Interrupt
    else if byte == 7 then Ok Expire
    else if byte == 8 then Ok Collect
    else if byte == 9 then Ok (Configure no_policy)
    else Err fault.BadKind

-- what a command's length may be, with what its kind says beside its byte
abbrev pub least_length : Kind → ℕ
least_length kind = length (detail_text kind) + least_bytes kind

abbrev pub most_length : Kind → ℕ
most_length kind = length (detail_text kind) + most_bytes kind

-- the fields of a command in front of its bytes
unfoldable pub fields_at : List ℕ → Result (Head × List ℕ) RecordError
fields_at bytes = do
  byte ← byte_at bytes
  id ← bytes_at 16 byte.1
  environment ← number_at w16 id.1
  time ← number_at w64 environment.1
  size ← number_at w32 time.1
  kind ← kind_at byte.0
  Ok (record { kind = kind; id = id.0; environment = environment.0; time = time.0; size = size.0 }, size.1)

-- what keeps a command from having these fields: the first that is bad
abbrev pub head_fault : Head → Option RecordError
head_fault h =
    if is_bad_environment h.kind h.environment || (is_bad_id h.kind h.id || nat_lt greatest_moment h.time) then Some fault.BadKind
    else if nat_lt (most_length h.kind) h.size then Some fault.TooLong
    else if nat_lt h.size (least_length h.kind) then Some fault.BadKind
    else None

-- it is this value, unless there is a fault
abbrev pub sound : {A : Type 0} → Option RecordError → A → Result A RecordError
sound None x = Ok x
sound (Some e) x = Err e

-- the refusal to write what has this fault: the fault, or want of memory where there is none
abbrev pub FailsBy : Option RecordError → RecordError → Type 0
FailsBy (Some why) e = e ≡ why
FailsBy None e = e ≡ fault.OutOfMemory

-- the cause of a failure, and the error behind it
abbrev pub failure_at : ℕ → List ℕ → Result (Kind × List ℕ) RecordError
failure_at byte error =
    if byte == 1 then Ok (Fail Reported, error)
    else if byte == 2 then unless (nat_lt 0 (length error)) fault.TooLong (Fail Timeout, error)
    else if byte == 3 then unless (nat_lt 0 (length error)) fault.TooLong (Fail Exited, error)
    else Err fault.BadKind

-- the retry policy of a Configure
abbrev pub configured_at : List ℕ → Result (Kind × List ℕ) RecordError
configured_at bytes = policy_at bytes >>= λ policy. Ok (Configure policy.0, policy.1)

-- the kind of a command, now with its cause or its policy, and the bytes that it carries
unfoldable pub body_at : Kind → List ℕ → Result (Kind × List ℕ) RecordError
body_at (Fail cause) [] = Err fault.BadKind
body_at (Fail cause) (byte ∷ error) = failure_at byte error
body_at (Configure policy) bytes = configured_at bytes
body_at kind bytes = Ok (kind, bytes)

-- the command at the front of these bytes, and the bytes behind it
unfoldable pub command_at : List ℕ → Result (Command × List ℕ) RecordError
command_at bytes = do
  long ← unless (nat_lt (length bytes) 31) fault.Truncated bytes
  head ← fields_at bytes
  good ← sound (head_fault head.0) head.0
  body ← bytes_at head.0.size head.1
  parts ← body_at head.0.kind body.0
  Ok (record { kind = parts.0; id = head.0.id; environment = head.0.environment; time = head.0.time; bytes = parts.1 }, body.1)

-- ## Settings

-- a text of good bytes, at least one and at most so many, behind its length
unfoldable pub text_at : ℕ → (ℕ → Bool) → List ℕ → Result (List ℕ × List ℕ) RecordError
text_at most is_good bytes = do
  size ← byte_at bytes
  long ← unless (nat_lt most size.0) fault.TooLong size
  none ← unless (nat_lt size.0 1) fault.BadKind size
  text ← bytes_at size.0 size.1
  unless (not (list_all is_good text.0)) fault.BadKind text

abbrev pub with_texts : Limits → List ℕ → List ℕ → List ℕ → Settings
with_texts l name handler arn =
    record {
      retries = l.retries;
      age = l.age;
      timeout = l.timeout;
      concurrency = l.concurrency;
      environments = l.environments;
      events = l.events;
      payload = l.payload;
      response = l.response;
      name = name;
      handler = handler;
      arn = arn;
    }

unfoldable pub limits_at : List ℕ → Result (Limits × List ℕ) RecordError
limits_at bytes = do
  retries ← small_at 0 2 bytes
  age ← limit_at w32 60 21600 retries.1
  timeout ← limit_at w16 1 900 age.1
  concurrency ← small_at 1 64 timeout.1
  environments ← small_at 1 16 concurrency.1
  events ← limit_at w16 1 1024 environments.1
  payload ← limit_at w32 2 1048576 events.1
  response ← limit_at w32 2 262144 payload.1
  Ok (
    record {
      retries = retries.0;
      age = age.0;
      timeout = timeout.0;
      concurrency = concurrency.0;
      environments = environments.0;
      events = events.0;
      payload = payload.0;
      response = response.0;
    },
    response.1,
  )

-- the settings at the front of these bytes, and the bytes behind them: the first bad field decides
unfoldable pub settings_at : List ℕ → Result (Settings × List ℕ) RecordError
settings_at bytes = do
  limits ← limits_at bytes
  name ← text_at 64 is_name_byte limits.1
  handler ← text_at 128 is_plain_byte name.1
  arn ← text_at 200 is_plain_byte handler.1
  Ok (with_texts limits.0 name.0 handler.0 arn.0, arn.1)

-- ## Rows

-- a length or a count: above its greatest it is TooLong
unfoldable pub sized_at : ℕ → ℕ → List ℕ → Result (ℕ × List ℕ) RecordError
sized_at least most bytes = do
  n ← number_at w32 bytes
  long ← unless (nat_lt most n.0) fault.TooLong n
  unless (nat_lt n.0 least) fault.BadKind n

-- a row's fields up to its moment
unfoldable pub life_at : List ℕ → Result (Life × List ℕ) RecordError
life_at bytes = do
  id ← bytes_at 16 bytes
  accepted ← limit_at w64 0 greatest_moment id.1
  number ← number_at w64 accepted.1
  last_number ← number_at w64 number.1
  standing ← small_at 1 4 last_number.1
  outcome ← small_at 0 3 standing.1
  environment ← limit_at w16 0 16 outcome.1
  moment ← number_at w64 environment.1
  Ok (
    record {
      id = id.0;
      accepted = accepted.0;
      number = number.0;
      last_number = last_number.0;
      standing = standing.0;
      outcome = outcome.0;
      environment = environment.0;
      moment = moment.0;
    },
    moment.1,
  )

-- and the others in front of its texts
unfoldable pub counts_at : Version → List ℕ → Result (Counts × List ℕ) RecordError
counts_at version bytes = do
  starts ← number_at w32 bytes
  failures ← number_at w32 starts.1
  push_backs ← number_at w32 failures.1
  given ← small_at 0 2 push_backs.1
  policy ← policy_in version given.1
  payload_size ← sized_at 1 (most_payload version) policy.1
  answer_size ← sized_at 0 262144 payload_size.1
  Ok (
    record {
      starts = starts.0;
      failures = failures.0;
      push_backs = push_backs.0;
      answer = given.0;
      policy = policy.0;
      payload_size = payload_size.0;
      answer_size = answer_size.0;
    },
    answer_size.1,
  )

abbrev pub outcome_at : ℕ → Result Outcome RecordError
outcome_at byte =
    if byte == 1 then Ok Success
    else if byte == 2 then Ok RetriesExhausted
    else if byte == 3 then Ok EventAgeExceeded
    else Err fault.BadKind

-- the rules between a row's fields: an outcome exactly where it ended, an environment exactly where it runs
unfoldable pub standing_of : Life → Result Standing RecordError
standing_of l =
    if l.standing == 1 then unless (nat_lt 0 l.outcome || nat_lt 0 l.environment) fault.BadKind (standing.Waiting l.moment)
    else if l.standing == 2 then unless (nat_lt 0 l.outcome || nat_lt 0 l.environment) fault.BadKind (standing.DueAgain l.moment)
    else if l.standing == 3
    then unless (nat_lt 0 l.outcome || nat_lt l.environment 1) fault.BadKind (standing.Running l.environment l.moment)
    else outcome_at l.outcome >>= λ outcome.
    unless (nat_lt 0 l.environment || nat_lt greatest_moment l.moment) fault.BadKind (standing.Ended outcome l.moment)

-- no answer has no bytes
abbrev pub answer_of : ℕ → List ℕ → Result Answer RecordError
answer_of byte bytes =
    if byte == 0 then unless (nat_lt 0 (length bytes)) fault.BadKind answer.None
    else if byte == 1 then Ok (answer.Response bytes)
    else Ok (answer.Error bytes)

-- the row at the front of these bytes, and the bytes behind it: the first bad field decides, then the rules between fields
unfoldable pub row_at : Version → List ℕ → Result (EventRow × List ℕ) RecordError
row_at version bytes = do
  life ← life_at bytes
  counts ← counts_at version life.1
  payload ← bytes_at counts.0.payload_size counts.1
  text ← bytes_at counts.0.answer_size payload.1
  standing ← standing_of life.0
  given ← answer_of counts.0.answer text.0
  Ok (
    record {
      id = life.0.id;
      accepted = life.0.accepted;
      number = life.0.number;
      last_number = life.0.last_number;
      standing = standing;
      starts = counts.0.starts;
      failures = counts.0.failures;
      push_backs = counts.0.push_backs;
      policy = counts.0.policy;
      payload = payload.0;
      answer = given;
    },
    text.1,
  )

-- ## Snapshots

unfoldable pub rows_at : Version → ℕ → List ℕ → Result (List EventRow × List ℕ) RecordError
rows_at version zero bytes = Ok ([], bytes)
rows_at version (suc n) bytes = do
  first ← row_at version bytes
  others ← rows_at version n first.1
  Ok (first.0 ∷ others.0, others.1)

-- the snapshot at the front of these bytes, and the bytes behind it: the first bad field decides, then the rules between rows
unfoldable pub snapshot_at : Version → List ℕ → Result (Snapshot × List ℕ) RecordError
snapshot_at version bytes = do
  number ← limit_at w64 0 greatest_number bytes
  last_moment ← limit_at w64 0 greatest_moment number.1
  policy ← policy_in version last_moment.1
  count ← sized_at 0 1024 policy.1
  rows ← rows_at version count.0 count.1
  ordered ← unless (not (are_in_order rows.0)) fault.BadKind rows
  Ok (record { number = number.0; last_moment = last_moment.0; policy = policy.0; rows = rows.0 }, rows.1)

-- the snapshot that these bytes are, with nothing behind it
abbrev pub whole_at : Version → List ℕ → Result Snapshot RecordError
whole_at version bytes = snapshot_at version bytes >>= λ snapshot. unless (nat_lt 0 (length snapshot.1)) fault.TooLong snapshot.0
