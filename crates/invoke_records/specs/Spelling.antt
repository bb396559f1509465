-- The one spelling of each record. Numbers are big-endian.
use Rattle.std.specs.Prelude.{◌≡◌, ℕ, ◌<◌, ◌^◌, ◌==◌, Bool, true, false, not, ◌&&◌, ◌||◌, nat_lt, nat_eq, List, [], ◌∷◌, ◌++◌, length, Option, Some, None, if◌then◌else◌, get_or}
use Rattle.std.specs.List.{flat_map, list_all, AllByRecursion}
use Rattle.std.specs.Cmp.Lexicographic.{pointwise}
use Rattle.std.specs.Int.{w16, w32, w64, to_be_bytes}
use Rattle.retry_rules.specs.declared.policy.RetryPolicy.{RetryPolicy}
use Rattle.retry_rules.specs.declared.settings.Settings.{Settings}
use Rattle.retry_rules.specs.declared.settings.Field.{Field}
use Rattle.retry_rules.specs.declared.settings.Field.TheVariants as field
use Rattle.retry_rules.specs.Settings.{bad_field, is_bad_policy}
use Rattle.invoke_records.specs.declared.command.Cause.TheVariants.{Reported, Timeout, Exited}
use Rattle.invoke_records.specs.declared.command.Kind.{Kind}
use Rattle.invoke_records.specs.declared.command.Kind.TheVariants.{Accept, Start, Succeed, Fail, Throttle, Interrupt, Expire, Collect, Configure}
use Rattle.invoke_records.specs.declared.command.Command.{Command}
use Rattle.invoke_records.specs.declared.row.Outcome.{Outcome}
use Rattle.invoke_records.specs.declared.row.Outcome.TheVariants.{Success, RetriesExhausted, EventAgeExceeded}
use Rattle.invoke_records.specs.declared.row.Standing.{Standing}
use Rattle.invoke_records.specs.declared.row.Standing.TheVariants as standing
use Rattle.invoke_records.specs.declared.row.Answer.{Answer}
use Rattle.invoke_records.specs.declared.row.Answer.TheVariants as answer
use Rattle.invoke_records.specs.declared.row.EventRow.{EventRow}
use Rattle.invoke_records.specs.declared.snapshot.Snapshot.{Snapshot}
use Rattle.invoke_records.specs.declared.error.RecordError.{RecordError}
use Rattle.invoke_records.specs.declared.error.RecordError.TheVariants.{BadKind, TooLong}

-- each is a byte
abbrev pub IsBytes : List ℕ → Type 0
IsBytes bytes = (i : ℕ) → get_or bytes i 0 < 256

-- retries 1, age 4
abbrev pub policy_text : RetryPolicy → List ℕ
policy_text p = (p.retries ∷ []) ++ to_be_bytes w32 p.age

-- ## Commands

abbrev pub kind_byte : Kind → ℕ
kind_byte Accept = 1
kind_byte Start = 2
kind_byte Succeed = 3
kind_byte (Fail cause) = 4
kind_byte Throttle = 5
kind_byte Interrupt = 6
kind_byte Expire = 7
kind_byte Collect = 8
kind_byte (Configure policy) = 9

-- what a kind says beside its byte: a failure's cause, a Configure's retry policy
abbrev pub detail_text : Kind → List ℕ
detail_text (Fail Reported) = 1 ∷ []
detail_text (Fail Timeout) = 2 ∷ []
detail_text (Fail Exited) = 3 ∷ []
detail_text (Configure policy) = policy_text policy
detail_text kind = []

-- the bytes behind a command's length
abbrev pub body_text : Command → List ℕ
body_text c = detail_text c.kind ++ c.bytes

-- kind 1, id 16, environment 2, time 8, length 4, and so many bytes
unfoldable pub command_text : Command → List ℕ
command_text c =
    kind_byte c.kind
    ∷ (c.id ++ (to_be_bytes w16 c.environment ++ (to_be_bytes w64 c.time ++ (to_be_bytes w32 (length (body_text c)) ++ body_text c))))

-- the greatest moment, the end of the year 9999
abbrev pub greatest_moment : ℕ
greatest_moment = 253402300799999

-- a Start names an environment, and no other command does
abbrev pub is_bad_environment : Kind → ℕ → Bool
is_bad_environment Start environment = nat_lt environment 1 || nat_lt 16 environment
is_bad_environment kind environment = nat_lt 0 environment

abbrev pub is_zero : ℕ → Bool
is_zero byte = byte == 0

-- a Configure is of no event: its id is all zeros
abbrev pub is_bad_id : Kind → List ℕ → Bool
is_bad_id (Configure policy) id = not (list_all is_zero id)
is_bad_id kind id = false

-- a Configure's retry policy is within its ranges
abbrev pub is_bad_detail : Kind → Bool
is_bad_detail (Configure policy) = is_bad_policy policy
is_bad_detail kind = false

abbrev pub least_bytes : Kind → ℕ
least_bytes Accept = 1
least_bytes kind = 0

abbrev pub most_bytes : Kind → ℕ
most_bytes Accept = 1048576
most_bytes Succeed = 262144
most_bytes (Fail Reported) = 262144
most_bytes kind = 0

-- what keeps a command from having a spelling: its first bad field
abbrev pub command_fault : Command → Option RecordError
command_fault c =
    if is_bad_environment c.kind c.environment || (is_bad_id c.kind c.id || nat_lt greatest_moment c.time) then Some BadKind
    else if nat_lt (most_bytes c.kind) (length c.bytes) then Some TooLong
    else if nat_lt (length c.bytes) (least_bytes c.kind) then Some BadKind
    else if is_bad_detail c.kind then Some BadKind
    else None

-- a command that has a spelling
pub record IsCommand (c : Command) : Type 0 where
  pub id : length c.id ≡ 16
  pub id_bytes : IsBytes c.id
  pub bytes : IsBytes c.bytes
  pub fault : command_fault c ≡ None

-- commands, one after another
abbrev pub commands_text : List Command → List ℕ
commands_text commands = flat_map command_text commands

-- ## Settings

-- a length of one byte, and so many bytes
abbrev pub short_text : List ℕ → List ℕ
short_text text = (length text ∷ []) ++ text

-- retries 1, age 4, timeout 2, concurrency 1, environments 1, events 2, payload 4, response 4
abbrev pub limits_text : Settings → List ℕ
limits_text s =
    (s.retries ∷ []) ++ (to_be_bytes w32 s.age
    ++ (to_be_bytes w16 s.timeout
    ++ ((s.concurrency ∷ [])
    ++ ((s.environments ∷ [])
    ++ (to_be_bytes w16 s.events ++ (to_be_bytes w32 s.payload ++ to_be_bytes w32 s.response))))))

-- the limits, then the name, the handler and the ARN
unfoldable pub settings_text : Settings → List ℕ
settings_text s = limits_text s ++ (short_text s.name ++ (short_text s.handler ++ short_text s.arn))

-- a text that is too long is TooLong, and any other bad field BadKind
abbrev pub fault_in : Settings → Option Field → Option RecordError
fault_in s None = None
fault_in s (Some field.Name) = if nat_lt 64 (length s.name) then Some TooLong else Some BadKind
fault_in s (Some field.Handler) = if nat_lt 128 (length s.handler) then Some TooLong else Some BadKind
fault_in s (Some field.Arn) = if nat_lt 200 (length s.arn) then Some TooLong else Some BadKind
fault_in s (Some bad) = Some BadKind

-- what keeps settings from having a spelling: their first bad field
abbrev pub settings_fault : Settings → Option RecordError
settings_fault s = fault_in s (bad_field s)

-- ## Rows

abbrev pub standing_byte : Standing → ℕ
standing_byte standing.Unknown = 0
standing_byte (standing.Waiting due) = 1
standing_byte (standing.DueAgain due) = 2
standing_byte (standing.Running environment deadline) = 3
standing_byte (standing.Ended outcome at) = 4

abbrev pub outcome_byte : Outcome → ℕ
outcome_byte Success = 1
outcome_byte RetriesExhausted = 2
outcome_byte EventAgeExceeded = 3

-- the outcome of an ended event, 0 of another
abbrev pub ended_byte : Standing → ℕ
ended_byte (standing.Ended outcome at) = outcome_byte outcome
ended_byte other = 0

-- the environment of a running event, 0 of another
abbrev pub environment_in : Standing → ℕ
environment_in (standing.Running environment deadline) = environment
environment_in other = 0

-- when it is due, its deadline, or when it ended
abbrev pub moment_in : Standing → ℕ
moment_in standing.Unknown = 0
moment_in (standing.Waiting due) = due
moment_in (standing.DueAgain due) = due
moment_in (standing.Running environment deadline) = deadline
moment_in (standing.Ended outcome at) = at

abbrev pub answer_byte : Answer → ℕ
answer_byte answer.None = 0
answer_byte (answer.Response bytes) = 1
answer_byte (answer.Error bytes) = 2

abbrev pub answer_bytes : Answer → List ℕ
answer_bytes answer.None = []
answer_bytes (answer.Response bytes) = bytes
answer_bytes (answer.Error bytes) = bytes

-- id 16, accepted 8, acceptance number 8, number of the last command 8, standing 1, outcome 1, environment 2, moment 8
abbrev pub life_text : EventRow → List ℕ
life_text r =
    r.id ++ (to_be_bytes w64 r.accepted
    ++ (to_be_bytes w64 r.number
    ++ (to_be_bytes w64 r.last_number
    ++ ((standing_byte r.standing ∷ [])
    ++ ((ended_byte r.standing ∷ [])
    ++ (to_be_bytes w16 (environment_in r.standing) ++ to_be_bytes w64 (moment_in r.standing)))))))

-- starts 4, failures 4, push-backs 4, answer 1, retries 1, age 4, payload length 4, answer length 4
abbrev pub counts_text : EventRow → List ℕ
counts_text r =
    to_be_bytes w32 r.starts
    ++ (to_be_bytes w32 r.failures
    ++ (to_be_bytes w32 r.push_backs
    ++ ((answer_byte r.answer ∷ [])
    ++ (policy_text r.policy
    ++ (to_be_bytes w32 (length r.payload) ++ to_be_bytes w32 (length (answer_bytes r.answer)))))))

-- 78 bytes, then the payload and the answer
unfoldable pub row_text : EventRow → List ℕ
row_text r = life_text r ++ (counts_text r ++ (r.payload ++ answer_bytes r.answer))

abbrev pub is_unknown : Standing → Bool
is_unknown standing.Unknown = true
is_unknown other = false

-- a running event has an environment, and an ended one a moment within the greatest
abbrev pub breaks_rule : Standing → Bool
breaks_rule (standing.Running environment deadline) = nat_lt environment 1
breaks_rule (standing.Ended outcome at) = nat_lt greatest_moment at
breaks_rule other = false

-- what keeps a row from having a spelling: its first bad field, and then the rules between fields
abbrev pub row_fault : EventRow → Option RecordError
row_fault r =
    if nat_lt greatest_moment r.accepted || (is_unknown r.standing || (nat_lt 16 (environment_in r.standing) || is_bad_policy r.policy))
    then Some BadKind
    else if nat_lt 1048576 (length r.payload) then Some TooLong
    else if nat_lt (length r.payload) 1 then Some BadKind
    else if nat_lt 262144 (length (answer_bytes r.answer)) then Some TooLong
    else if breaks_rule r.standing then Some BadKind
    else None

-- numbers within their width, and bytes that are bytes, as every row of the program has them
pub record IsWithinWidth (r : EventRow) : Type 0 where
  pub id : length r.id ≡ 16
  pub id_bytes : IsBytes r.id
  pub number : r.number < 2 ^ 64
  pub last_number : r.last_number < 2 ^ 64
  pub moment : moment_in r.standing < 2 ^ 64
  pub starts : r.starts < 2 ^ 32
  pub failures : r.failures < 2 ^ 32
  pub push_backs : r.push_backs < 2 ^ 32
  pub payload : IsBytes r.payload
  pub answer : IsBytes (answer_bytes r.answer)

-- a row that has a spelling
pub record IsRow (r : EventRow) : Type 0 where
  pub within : IsWithinWidth r
  pub fault : row_fault r ≡ None

-- ## Snapshots

-- the greatest number of commands
abbrev pub greatest_number : ℕ
greatest_number = 2 ^ 62

-- number 8, last moment 8, retries 1, age 4, count of rows 4, and the rows
unfoldable pub snapshot_text : Snapshot → List ℕ
snapshot_text s =
    to_be_bytes w64 s.number
    ++ (to_be_bytes w64 s.last_moment ++ (policy_text s.policy ++ (to_be_bytes w32 (length s.rows) ++ flat_map row_text s.rows)))

-- a row was accepted before another, and has another id
abbrev pub is_before : EventRow → EventRow → Bool
is_before row later = nat_lt row.number later.number && not (pointwise nat_eq row.id later.id)

-- each row was accepted before those behind it, and has an id of its own
abbrev pub are_in_order : List EventRow → Bool
are_in_order [] = true
are_in_order (row ∷ rows) = list_all (is_before row) rows && are_in_order rows

abbrev pub first_of_two : Option RecordError → Option RecordError → Option RecordError
first_of_two (Some e) other = Some e
first_of_two None other = other

-- the fault of the first row that has one
abbrev pub rows_fault : List EventRow → Option RecordError
rows_fault [] = None
rows_fault (row ∷ rows) = first_of_two (row_fault row) (rows_fault rows)

-- what keeps a snapshot from having a spelling: its first bad field, and then the rules between rows
abbrev pub snapshot_fault : Snapshot → Option RecordError
snapshot_fault s =
    if nat_lt greatest_number s.number || (nat_lt greatest_moment s.last_moment || is_bad_policy s.policy) then Some BadKind
    else if nat_lt 1024 (length s.rows) then Some TooLong
    else first_of_two (rows_fault s.rows) (if are_in_order s.rows then None else Some BadKind)

-- a snapshot that has a spelling
pub record IsSnapshot (s : Snapshot) : Type 0 where
  pub within : AllByRecursion IsWithinWidth s.rows
  pub fault : snapshot_fault s ≡ None
