-- Lists of records that are to be collected, and what is told of them.
use Rattle.std.specs.Prelude.{◌≡◌, ℕ, ◌==◌, ◌&&◌, Bool, List, ◌++◌, map, Option, Some, None, if◌then◌else◌, codes, bytes_eq}
use Rattle.std.specs.List.{flat_map}
use Rattle.std.specs.Str.Lines.{lines}
use Rattle.uuid.specs.Text.{parsed}
use Rattle.destination_json.specs.Record.{id_text}
use Rattle.admin_replies.specs.declared.list_reading.ListError.{ListError}
use Rattle.admin_replies.specs.declared.list_reading.ListError.TheVariants.{NoText, TooMany, OutOfMemory}
use Rattle.admin_replies.specs.declared.admin_reply.AdminReply.{AdminReply}
use Rattle.admin_replies.specs.declared.verdict.Verdict.{Verdict}
use Rattle.admin_replies.specs.declared.verdict.Verdict.TheVariants.{Collected, Unknown, NotEnded}
use Rattle.admin_replies.specs.declared.verdict.ToldLine.{ToldLine}
use Rattle.admin_replies.specs.declared.verdict.ToldLine.TheVariants.{Bad, Of}

-- the request, by its method and its target
abbrev pub brings_list : List ℕ → List ℕ → Bool
brings_list method target = bytes_eq method (codes "POST") && bytes_eq target (codes "/records/collect")

-- each line of a text, as the id that it is
abbrev pub ids_in : List ℕ → List (Option (List ℕ))
ids_in text = map parsed (lines text)

-- what became of a record, by the status of the reply to its DELETE
abbrev pub verdict_of : ℕ → Option Verdict
verdict_of status =
    if status == 204 then Some Collected
    else if status == 404 then Some Unknown
    else if status == 409 then Some NotEnded
    else None

-- what is told of a line with this id, or without one, where this became of the id's record
abbrev pub line_in : Option (List ℕ) → Option Verdict → Option ToldLine
line_in None verdict = Some Bad
line_in (Some id) None = None
line_in (Some id) (Some verdict) = Some (Of id verdict)

-- the status of a list that is refused
abbrev pub status_of : ListError → ℕ
status_of NoText = 400
status_of TooMany = 413
status_of OutOfMemory = 503

-- ## Its text

abbrev pub verdict_text : Verdict → List ℕ
verdict_text Collected = codes " collected\n"
verdict_text Unknown = codes " unknown\n"
verdict_text NotEnded = codes " not ended\n"

abbrev pub line_text : ToldLine → List ℕ
line_text Bad = codes "bad\n"
line_text (Of id verdict) = id_text id ++ verdict_text verdict

-- just these lines are told
pub record TellsLines (lines : List ToldLine) (reply : AdminReply) : Type 0 where
  pub status : reply.status ≡ 200
  pub body : reply.body.items ≡ flat_map line_text lines
