-- What a 202 that a port sends tells of the request that it was sent for.
use Rattle.std.specs.Prelude.{◌≡◌, ◌⊎◌, ℕ, List, [], Result}
use Rattle.std.specs.declared.sync.ledger.Ledger.{Ghosts as LedgerGhosts}
use Rattle.http.specs.declared.request.Parts.{Parts}
use Rattle.http_port.specs.declared.reading.BodyError.{BodyError}
use Rattle.http_port.specs.Answering.{Message}
use Rattle.retry_rules.specs.declared.settings.Settings.{Settings}
use Rattle.api_core.specs.declared.call.Call.{Call}
use Rattle.api_core.specs.declared.dialect.Dialect.{Dialect}
use Rattle.api_core.specs.Replies.{async_body}
use Rattle.hall_core.specs.declared.released.Released.{Released}
use Rattle.hall_core.specs.Hall.{HallView, StandsFor, settings_in}
use Rattle.receipts.specs.declared.mark.Trace.{Ghosts as TraceGhosts}
use Rattle.receipts.specs.declared.opening.OpeningTrace.{Ghosts as OpeningGhosts}
use Rattle.receipts.specs.declared.witness.Witnessed.{Witnessed}
use Rattle.receipts.specs.Locked.{hall_in}
use Rattle.receipts.specs.Running.{HasRuns}
use Rattle.long_poll.specs.Port.{IsDoneFor}
use Rattle.long_poll.specs.Waiting.{IsTaken}
use Rattle.promises.specs.Promises.{Life, done as past_of, Telling, IsLastRequest, WasAnswered202}
use Rattle.http_front.specs.Calls.{IsCallFor}

-- the message says that an event was accepted: its status is 202, and its body is empty, or the one that InvokeAsync tells
abbrev pub SaysAccepted : Message → Type 0
SaysAccepted sent = (sent.status ≡ 202) × ((sent.body ≡ []) ⊎ (sent.body ≡ async_body))

-- in this life of the hall the slot was answered 202: an event was accepted with some payload, by a command that is durable in the
-- hall. Where this call was the last that came with the slot, it is the call that invoked with the payload
pub record AnsweredAt (hall : HallView) (life : Life (settings_in hall)) (slot : ℕ) (call : Call) : Type 0 where
  pub telling : Telling (settings_in hall)
  pub life_is : telling.life ≡ life
  pub slot_is : telling.slot ≡ slot
  pub broken_is : telling.broken ≡ hall.issuer.broken
  pub durable_is : telling.durable ≡ hall.issuer.durable
  pub id : List ℕ
  pub payload : List ℕ
  pub was : WasAnswered202 (settings_in hall) telling id payload
  pub is_its : IsLastRequest (settings_in hall) telling call → was.invoked ≡ call

-- the hall under the lock, as a step met it
abbrev pub hall_met : {A L T O : Type 0} {l : LedgerGhosts L} {g : TraceGhosts T O} {o : OpeningGhosts O} → Witnessed A L T O l g o → HallView
hall_met step = hall_in step.before.value.hall

-- the request with this head, of which this was read, is a call that the step `asked` did with the slot. The step `taken` gave the
-- slot its reply: the hall that it met stands for a run on each history that left its opening's table, and in each life that this
-- hall stands for the slot was answered 202
pub record IsAccepted {L T O : Type 0} {l : LedgerGhosts L} {g : TraceGhosts T O} {o : OpeningGhosts O}
    (dialect : Dialect) (settings : Settings) (port : ℕ) (head : Parts) (read : Result (List ℕ) BodyError)
    (slot : ℕ) (asked : Witnessed (Unit {0}) L T O l g o) (taken : Witnessed Released L T O l g o) : Type 0 where
  pub call : Call
  pub is_call : IsCallFor dialect settings port head read call
  pub done : IsDoneFor call (hall_met asked) (hall_in asked.after.value.hall) slot
  pub takes : IsTaken slot taken
  pub runs : ∥ HasRuns (hall_met taken) (o.table taken.before.value.opening) ∥₁
  pub answered : (life : Life (settings_in (hall_met taken))) → StandsFor (hall_met taken) (past_of (settings_in (hall_met taken)) life)
      → AnsweredAt (hall_met taken) life slot call
