-- Calls of the hall that an operator has done, and what the hall replied to them.
use Rattle.std.specs.Prelude.{◌≡◌, ℕ, ◌==◌, List, Option, Some, None, slice_get, if◌then◌else◌, codes, bytes_eq}
use Rattle.std.specs.declared.sync.ledger.Ledger.{Ghosts as LedgerGhosts}
use Rattle.api_core.specs.declared.call.Call.{Call}
use Rattle.api_core.specs.declared.reply.Reply.{Reply}
use Rattle.hall_core.specs.declared.released.Released.{Released}
use Rattle.receipts.specs.declared.locked.Locked.{Locked}
use Rattle.receipts.specs.declared.mark.Trace.{Ghosts as TraceGhosts}
use Rattle.receipts.specs.declared.opening.OpeningTrace.{Ghosts as OpeningGhosts}
use Rattle.receipts.specs.declared.witness.Witnessed.{Witnessed}
use Rattle.receipts.specs.Locked.{hall_in}
use Rattle.long_poll.specs.Port.{IsDoneFor}
use Rattle.long_poll.specs.Waiting.{IsTaken}
use Rattle.admin_replies.specs.Requests.{id_of}

-- the hall under the lock gave it for the slot with which just this call was done there before
abbrev pub IsReleasedFor : {L T O : Type 0} {l : LedgerGhosts L} {g : TraceGhosts T O} {o : OpeningGhosts O}
    → Call → Witnessed Released L T O l g o → Type 0
IsReleasedFor {L = L} {T = T} {O = O} {l = l} {g = g} {o = o} call released =
    (before : Locked L T O l g o) × (after : Locked L T O l g o) × (slot : ℕ)
    × IsDoneFor call (hall_in before.hall) (hall_in after.hall) slot × IsTaken slot released

-- it is the reply that was released so
abbrev pub IsReplyTo : {L T O : Type 0} {l : LedgerGhosts L} {g : TraceGhosts T O} {o : OpeningGhosts O}
    → Call → Witnessed Reply L T O l g o → Type 0
IsReplyTo {L = L} {T = T} {O = O} {l = l} {g = g} {o = o} call told =
    (released : Witnessed Released L T O l g o) × IsReleasedFor call released × (told.answer ≡ released.answer.reply)

-- what is taken for this slot was released so, from the office where this was seen
abbrev pub GivesReplyTo : {A L T O : Type 0} {l : LedgerGhosts L} {g : TraceGhosts T O} {o : OpeningGhosts O}
    → Call → Witnessed A L T O l g o → ℕ → Type 0
GivesReplyTo {L = L} {T = T} {O = O} {l = l} {g = g} {o = o} call seen slot =
    (released : Witnessed Released L T O l g o) → IsTaken slot released → IsReleasedFor call released

-- ## The event that a reply tells to be accepted

-- the id that a header tells, if it is that of a request's id
abbrev pub id_in : Option (List ℕ × List ℕ) → Option (List ℕ)
id_in None = None
id_in (Some header) = if bytes_eq header.0 (codes "X-Amzn-RequestId") then id_of header.1 else None

-- the id of the event that is accepted by a reply, if one is: 202, whose first header tells it
abbrev pub accepted_by : Reply → Option (List ℕ)
accepted_by reply = if reply.status == 202 then id_in (slice_get reply.headers 0) else None
