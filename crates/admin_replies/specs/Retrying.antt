-- Failed records that are to be tried again: which request names one, by which payload, and what is told of it.
use Rattle.std.specs.Prelude.{◌≡◌, ℕ, ◌-◌, ◌==◌, List, ◌++◌, length, take, drop, find, Option, Some, None, Result, Ok, Err, if◌then◌else◌, codes, bytes_eq}
use Rattle.invoke_records.specs.declared.row.EventRow.{EventRow}
use Rattle.invoke_records.specs.declared.row.Standing.{Standing}
use Rattle.async_core.specs.Rules.{has_id}
use Rattle.async_core.specs.Standings.{is_ended}
use Rattle.operator_view.specs.Standings.{is_failure}
use Rattle.destination_json.specs.Record.{id_text}
use Rattle.admin_replies.specs.declared.admin_reply.AdminReply.{AdminReply}
use Rattle.admin_replies.specs.declared.retry_refusal.RetryRefusal.{RetryRefusal}
use Rattle.admin_replies.specs.declared.retry_refusal.RetryRefusal.TheVariants as why
use Rattle.admin_replies.specs.declared.verdict.ToldLine.{ToldLine}
use Rattle.admin_replies.specs.Collecting.{line_text}

-- ## The request

-- what stands before these last bytes of a text, where it ends with them
abbrev pub before_end : List ℕ → List ℕ → Option (List ℕ)
before_end end text =
    if bytes_eq (drop (length text - length end) text) end then Some (take (length text - length end) text) else None

-- what stands in the place of the id in a path `/records/ID/retry`
unfoldable pub named_in : List ℕ → Option (List ℕ)
named_in path = if bytes_eq (take 9 path) (codes "/records/") then before_end (codes "/retry") (drop 9 path) else None

-- what a request names whose record is to be tried again, by its method and its target
abbrev pub record_named : List ℕ → List ℕ → Option (List ℕ)
record_named method target = if bytes_eq method (codes "POST") then named_in target else None

-- ## The record

-- why the record of an event that stands so is not tried again, if it is not
abbrev pub refusal_in : Standing → Option RetryRefusal
refusal_in standing =
    if is_failure standing then None
    else if is_ended standing then Some why.Succeeded
    else Some why.NotEnded

abbrev pub payload_unless : Option RetryRefusal → List ℕ → Result (List ℕ) RetryRefusal
payload_unless None payload = Ok payload
payload_unless (Some why) payload = Err why

abbrev pub payload_in : Option EventRow → Result (List ℕ) RetryRefusal
payload_in None = Err why.Unknown
payload_in (Some row) = payload_unless (refusal_in row.standing) row.payload

-- the payload of the failed record of this event, or why it is not tried again
abbrev pub failed_payload : List ℕ → List EventRow → Result (List ℕ) RetryRefusal
failed_payload id rows = payload_in (find (has_id id) rows)

-- ## What is told

-- the status of a refusal
abbrev pub status_of : RetryRefusal → ℕ
status_of why.Id = 400
status_of why.Unknown = 404
status_of why.NotEnded = 409
status_of why.Succeeded = 409
status_of why.OutOfMemory = 503

-- the status where the payload was not accepted, by that of the hall's reply
abbrev pub status_by : ℕ → ℕ
status_by status = if status == 429 then 429 else 503

-- the payload was accepted as this event
abbrev pub accepted_text : List ℕ → List ℕ
accepted_text new = id_text new ++ codes " accepted\n"

abbrev pub left_text : List ℕ
left_text = codes "the broker is not available: the failed record may be held too, and nothing is lost\n"

-- just this is told: that it was accepted as this event, and what became of the record
pub record TellsAgain (new : List ℕ) (line : ToldLine) (reply : AdminReply) : Type 0 where
  pub status : reply.status ≡ 200
  pub body : reply.body.items ≡ accepted_text new ++ line_text line

-- just this is told: that it was accepted as this event, and that the record may be left
pub record TellsLeft (new : List ℕ) (reply : AdminReply) : Type 0 where
  pub status : reply.status ≡ 503
  pub body : reply.body.items ≡ accepted_text new ++ left_text
