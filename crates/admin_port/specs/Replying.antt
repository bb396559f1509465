-- What an operator is told.
use Rattle.std.specs.Prelude.{◌≡◌, ◌⊎◌, ℕ, Bool, true, false, List, [], ◌∷◌, ◌++◌, map, codes, Option, Some, None, Result, Ok, Err, IfSome}
use Rattle.futures.specs.declared.future.either.Either.{Either}
use Rattle.futures.specs.declared.future.either.Either.TheVariants.{Left, Right}
use Rattle.http.specs.declared.request.Parts.{Parts}
use Rattle.http_port.specs.Answering.{Message, status_alone, with_more, with_bytes}
use Rattle.http_port.specs.Target.{target_in}
use Rattle.http_port.specs.declared.reading.BodyError.{BodyError}
use Rattle.destination_json.specs.Record.{id_text}
use Rattle.admin_port.specs.Heads.{is_local}
use Rattle.admin_replies.specs.declared.measuring.Measures.{Measures}
use Rattle.admin_replies.specs.declared.kept.Kept.{Kept}
use Rattle.admin_replies.specs.declared.admin_reply.AdminReply.{AdminReply}
use Rattle.admin_replies.specs.declared.telling.Baseline.{Baseline}
use Rattle.admin_replies.specs.Media.{content_type_of}
use Rattle.admin_replies.specs.Requests.{asked_of, status_of}
use Rattle.admin_replies.specs.Collecting.{ids_in}
use Rattle.admin_replies.specs.Telling.{TellsOf, TellsAtOnce}
use Rattle.admin_replies.specs.declared.admin_refusal.AdminRefusal.{AdminRefusal}
use Rattle.admin_replies.specs.declared.admin_request.AdminRequest.{AdminRequest}
use Rattle.hall_core.specs.declared.seeking.Sought.{Sought}
use Rattle.receipts.specs.declared.view.View.{View}
use Rattle.receipts.specs.declared.view.Unreleased.{Unreleased}
use Rattle.long_poll.specs.declared.pending_view.DurableView.{DurableView}
use Rattle.long_poll.specs.declared.pending_view.ViewError.{ViewError}
use Rattle.long_poll.specs.PendingView.{IsOf}

-- ## A reply as it is sent

-- where a list has more, the id to go on after
abbrev pub next_told : Option (List ℕ) → List (List ℕ × List ℕ)
next_told None = []
next_told (Some id) = (codes "next-after", id_text id) ∷ []

-- status and headers
abbrev pub head_told : AdminReply → Message
head_told reply =
    with_more (status_alone reply.status)
    ((codes "content-type", content_type_of reply.media) ∷ (codes "cache-control", codes "no-store") ∷ next_told reply.next)

abbrev pub message_told : AdminReply → Message
message_told reply = with_bytes (head_told reply) reply.body.items

abbrev pub IsMessageOf : Option AdminReply → Message → Type 0
IsMessageOf None told = ⊥
IsMessageOf (Some reply) told = told ≡ message_told reply

-- it tells a line of text, with this status
abbrev pub TellsLine : ℕ → List ℕ → Message → Type 0
TellsLine status words told =
    (reply : AdminReply) × (reply.status ≡ status) × (reply.body.items ≡ words ++ 10 ∷ []) × (told ≡ message_told reply)

-- ## What a request is answered

-- it is refused by the first check that fails, by a host that is not here, or for want of memory
abbrev pub RefusesRequest : Parts → Message → Type 0
RefusesRequest head told =
    (told ≡ status_alone 503)
    ⊎ ((status : ℕ) × (words : List ℕ) × TellsLine status words told
    × (((status ≡ 403) × (is_local head.headers ≡ false)) ⊎ ((why : AdminRefusal) × (asked_of head.method (target_in head) ≡ Err why) × (status ≡ status_of why))))

-- its head asks for this, of this machine
abbrev pub IsAsked : Parts → AdminRequest → Type 0
IsAsked head request = (asked_of head.method (target_in head) ≡ Ok request) × (is_local head.headers ≡ true)

-- something is there to be shown, and this was sought of it
abbrev pub Seeks : Sought → Option Unreleased → Type 0
Seeks wanted None = ⊥
Seeks wanted (Some unreleased) = unreleased.view.hall.sought ≡ wanted

-- lines with just these ids are collected. Of an E it is known which id its line has
abbrev pub CollectsIds : {E : Type 0} → (E → Option (List ℕ)) → List ℕ → List E → Type 0
CollectsIds id list entries = map id entries ≡ ids_in list

-- the ids of its body's lines are collected
abbrev pub CollectsBody : {E : Type 0} → (E → Option (List ℕ)) → Result (List ℕ) BodyError → List E → Type 0
CollectsBody id body entries = (list : List ℕ) × (body ≡ Ok list) × CollectsIds id list entries

-- it is what is shown, of which this holds, or what is done, of which that holds
abbrev pub ShowsOrActs : {S A : Type 0} → (S → Type 0) → (A → Type 0) → Either S A → Type 0
ShowsOrActs shows acts (Left shown) = shows shown
ShowsOrActs shows acts (Right done) = acts done

-- ## What a reply tells

-- the reply tells of what was seen, with what was measured at some moment; or there is no memory for one
abbrev pub TellsOfView : Baseline → AdminRequest → View → Option AdminReply → Type 0
TellsOfView baseline request view reply = IfSome reply (λ told. (measures : Measures) × ((kept : Kept) × ((now : ℕ) × TellsOf baseline view measures kept now request told)))

-- the reply tells what needs no view, with what was measured and kept at some moment; or there is no memory for one
abbrev pub TellsOfNoView : Baseline → AdminRequest → Option AdminReply → Type 0
TellsOfNoView baseline request reply =
    IfSome reply (λ told. (measures : Measures) × ((kept : Kept) × ((is_stopping : Bool) × TellsAtOnce baseline measures kept is_stopping request told)))

-- what its head asks for needs no view, and is told
abbrev pub TellsAtOnceBy : Baseline → Parts → Option AdminReply → Type 0
TellsAtOnceBy baseline head reply = (request : AdminRequest) × IsAsked head request × TellsOfNoView baseline request reply

-- it is refused: the hall broke before what was asked for became durable
abbrev pub TellsOfFault : Option AdminReply → Type 0
TellsOfFault reply = IfSome reply (λ told. told.status ≡ 503)

-- the reply tells of this, or that nothing is told
abbrev pub TellsOfTold : Baseline → AdminRequest → Result DurableView ViewError → Option AdminReply → Type 0
TellsOfTold baseline request (Ok told) reply = TellsOfView baseline request told.view reply
TellsOfTold baseline request (Err why) reply = TellsOfFault reply

-- the reply tells of what was unreleased, once a board showed that it is durable, and of nothing else
abbrev pub TellsOfUnreleased : Baseline → AdminRequest → Option Unreleased → Option AdminReply → Type 0
TellsOfUnreleased baseline request unreleased reply =
    (told : Result DurableView ViewError) × IsOf unreleased told × TellsOfTold baseline request told reply
