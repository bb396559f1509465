-- What of an operator's requests has something done, and with what an act is refused.
use Rattle.std.specs.Prelude.{◌≡◌, ◌⊎◌, ◌<◌, ℕ, List, length, Bool, true, false, Option, Some, None, Result, Ok, Err, IsTrue, IsUtf8, option_map}
use Rattle.http.specs.declared.request.Parts.{Parts}
use Rattle.http_port.specs.Answering.{Message, status_alone}
use Rattle.http_port.specs.Target.{target_in}
use Rattle.http_port.specs.declared.reading.BodyError.{BodyError}
use Rattle.http_port.specs.declared.reading.BodyError.TheVariants.{TooLarge, CutOff, OutOfMemory}
use Rattle.admin_replies.specs.Collecting.{brings_list, ids_in}
use Rattle.admin_replies.specs.Requests.{id_of}
use Rattle.admin_replies.specs.Retrying.{record_named}
use Rattle.admin_port.specs.Heads.{may_act}
use Rattle.admin_port.specs.Replying.{TellsLine, RefusesRequest}

-- ## What it is about

-- the record that is to be tried again, as the id that it has, if it has one
abbrev pub named_by : Parts → Option (Option (List ℕ))
named_by head = option_map id_of (record_named head.method (target_in head))

abbrev pub brings : Parts → Bool
brings head = brings_list head.method (target_in head)

-- ## With what it is refused

-- with a line of text; where memory is wanting, with 503 alone
abbrev pub TellsOf : ℕ → Message → Type 0
TellsOf status told = (told ≡ status_alone 503) ⊎ ((words : List ℕ) × TellsLine status words told)

-- it may do nothing
abbrev pub RefusesAct : Parts → Message → Type 0
RefusesAct head told = (may_act head.headers ≡ false) × TellsOf 403 told

-- its list is no text, or too long
abbrev pub RefusesText : List ℕ → Message → Type 0
RefusesText list told = ((IsUtf8 list → ⊥) × TellsOf 400 told) ⊎ ((1000 < length (ids_in list)) × TellsOf 413 told)

-- its body is no list: it was cut off, is too large, or is no text of so many lines
abbrev pub RefusesBody : Result (List ℕ) BodyError → Message → Type 0
RefusesBody (Ok list) told = RefusesText list told
RefusesBody (Err TooLarge) told = TellsOf 413 told
RefusesBody (Err CutOff) told = told ≡ status_alone 400
RefusesBody (Err OutOfMemory) told = TellsOf 503 told

-- a list is refused by the first of these that fails; where memory is wanting, with 503
abbrev pub RefusesList : Parts → Result (List ℕ) BodyError → Message → Type 0
RefusesList head body told =
    TellsOf 503 told ⊎ RefusesAct head told ⊎ ((may_act head.headers ≡ true) × RefusesBody body told)

-- it names a record by what is no id
abbrev pub RefusesId : Option (List ℕ) → Message → Type 0
RefusesId id told = (id ≡ None) × TellsOf 400 told

-- so is a record that is to be tried again, before its event is looked at
abbrev pub RefusesRetry : Parts → Option (List ℕ) → Message → Type 0
RefusesRetry head id told =
    TellsOf 503 told ⊎ RefusesAct head told ⊎ ((may_act head.headers ≡ true) × RefusesId id told)

-- ## Any request

abbrev pub RefusesNamed : Option (Option (List ℕ)) → Parts → Message → Type 0
RefusesNamed None head told = RefusesRequest head told
RefusesNamed (Some id) head told = RefusesRetry head id told

abbrev pub RefusesBrought : Bool → Parts → Result (List ℕ) BodyError → Message → Type 0
RefusesBrought true head body told = RefusesList head body told
RefusesBrought false head body told = RefusesNamed (named_by head) head told

-- a request is refused as what it is: an act only where something may be done at all
abbrev pub Refuses : Bool → Parts → Result (List ℕ) BodyError → Message → Type 0
Refuses false head body told = RefusesRequest head told
Refuses true head body told = RefusesBrought (brings head) head body told

-- where something may be done at all, its head brings a list, and it may act
abbrev pub BringsList : Bool → Parts → Type 0
BringsList acts head = IsTrue acts × IsTrue (brings head) × IsTrue (may_act head.headers)

-- where something may be done at all, its head names this record, and it may act
abbrev pub NamesRecord : Bool → Parts → List ℕ → Type 0
NamesRecord acts head id = IsTrue acts × (named_by head ≡ Some (Some id)) × IsTrue (may_act head.headers)
