-- The text of one event, as JSON without spaces:
-- `{"id":"ID","standing":"S","accepted":N,"moment":N,"environment":N,"starts":N,"failures":N,"pushbacks":N,"retries":N,"age":N,
-- "payloadBytes":N,"answerBytes":N}`, on one line.
use Rattle.std.specs.Prelude.{ℕ, List, [], ◌++◌, length, take, nat_le, Option, Some, None, if◌then◌else◌, codes, decimal}
use Rattle.std.specs.Str.Lossy.{utf8_valid_len}
use Rattle.std.specs.Option.{option_map_or}
use Rattle.json.specs.Print.{quoted}
use Rattle.retry_rules.specs.declared.settings.Settings.{Settings}
use Rattle.invoke_records.specs.declared.row.Answer.{Answer}
use Rattle.invoke_records.specs.declared.row.Answer.TheVariants as answer
use Rattle.invoke_records.specs.declared.row.EventRow.{EventRow}
use Rattle.invoke_records.specs.declared.row.Outcome.TheVariants.{Success, RetriesExhausted, EventAgeExceeded}
use Rattle.invoke_records.specs.declared.row.Standing.{Standing}
use Rattle.invoke_records.specs.declared.row.Standing.TheVariants.{Unknown, Waiting, DueAgain, Running, Ended}
use Rattle.invoke_records.specs.Spelling.{moment_in, greatest_moment}
use Rattle.async_core.specs.Readers.{Ending}
use Rattle.destination_json.specs.Record.{id_text, record_text}

-- ## Where it stands

abbrev pub standing_text : Standing → List ℕ
standing_text Unknown = codes "unknown"
standing_text (Waiting due) = codes "waiting"
standing_text (DueAgain due) = codes "due again"
standing_text (Running environment deadline) = codes "running"
standing_text (Ended Success at) = codes "ended Success"
standing_text (Ended RetriesExhausted at) = codes "ended RetriesExhausted"
standing_text (Ended EventAgeExceeded at) = codes "ended EventAgeExceeded"

-- the environment in which an attempt runs, if one does
abbrev pub environment_text : Standing → List ℕ
environment_text (Running environment deadline) = decimal environment
environment_text other = codes "null"

abbrev pub answer_bytes : Answer → List ℕ
answer_bytes answer.None = []
answer_bytes (answer.Response bytes) = bytes
answer_bytes (answer.Error bytes) = bytes

-- ## Its members, piece by piece

abbrev pub name_members : List ℕ → Standing → List ℕ
name_members id standing =
    codes "\"id\":\"" ++ (id_text id ++ (codes "\",\"standing\":\"" ++ (standing_text standing ++ codes "\"")))

-- when it was accepted, and when it is due, times out, or ended
abbrev pub moment_members : ℕ → Standing → List ℕ
moment_members accepted standing =
    codes ",\"accepted\":" ++ (decimal accepted ++ (codes ",\"moment\":" ++ decimal (moment_in standing)))

abbrev pub environment_member : Standing → List ℕ
environment_member standing = codes ",\"environment\":" ++ environment_text standing

-- its starts, its failures, and the push-backs since the last one
abbrev pub count_members : ℕ → ℕ → ℕ → List ℕ
count_members starts failures push_backs =
    codes ",\"starts\":"
    ++ (decimal starts ++ (codes ",\"failures\":" ++ (decimal failures ++ (codes ",\"pushbacks\":" ++ decimal push_backs))))

-- the retries and the age, in seconds, that it is judged by
abbrev pub policy_members : ℕ → ℕ → List ℕ
policy_members retries age = codes ",\"retries\":" ++ (decimal retries ++ (codes ",\"age\":" ++ decimal age))

-- how many bytes its payload has, and what a runtime answered last
abbrev pub size_members : ℕ → ℕ → List ℕ
size_members payload answer = codes ",\"payloadBytes\":" ++ (decimal payload ++ (codes ",\"answerBytes\":" ++ decimal answer))

unfoldable pub members_text : EventRow → List ℕ
members_text r =
    name_members r.id r.standing
    ++ (moment_members r.accepted r.standing
    ++ (environment_member r.standing
    ++ (count_members r.starts r.failures r.push_backs
    ++ (policy_members r.policy.retries r.policy.age ++ size_members (length r.payload) (length (answer_bytes r.answer))))))

-- the event as it stands in a list
abbrev pub event_text : EventRow → List ℕ
event_text r = codes "{" ++ (members_text r ++ codes "}")

-- ## With its payload and its record

-- bytes as far as they are whole characters
abbrev pub whole_characters : List ℕ → List ℕ
whole_characters bytes = take (utf8_valid_len bytes) bytes

-- the first 1024 bytes of a payload, without a character that is cut
unfoldable pub beginning : List ℕ → List ℕ
beginning payload = whole_characters (take 1024 payload)

-- the beginning of the error that a runtime reported last, or `null` where it reported none, or has answered since
abbrev pub error_json : Answer → List ℕ
error_json (answer.Error bytes) = quoted (beginning bytes)
error_json other = codes "null"

-- its member, and the name of the one behind it
abbrev pub error_member : Answer → List ℕ
error_member answer = codes ",\"lastError\":" ++ (error_json answer ++ codes ",\"record\":")

-- what is told of an event that ended, up to the end of the year 9999: no moment behind that has a text
abbrev pub ending_by : EventRow → Standing → Option Ending
ending_by r (Ended outcome at) =
    if nat_le at greatest_moment
    then Some (record { id = r.id; payload = r.payload; answer = r.answer; outcome = outcome; at = at; starts = r.starts })
    else None
ending_by r other = None

abbrev pub ending_of : EventRow → Option Ending
ending_of r = ending_by r r.standing

-- its destination record, or `null` where it has not ended
abbrev pub record_json : Settings → EventRow → List ℕ
record_json s r = option_map_or (record_text s) (ending_of r) (codes "null")

-- the event as it is shown alone: three members more
unfoldable pub detail_text : Settings → EventRow → List ℕ
detail_text s r =
    codes "{"
    ++ (members_text r ++ (codes ",\"payload\":" ++ (quoted (beginning r.payload)
    ++ (error_member r.answer ++ (record_json s r ++ codes "}")))))
