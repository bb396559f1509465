-- What becomes of the lines of a list of records that are to be collected.
use Rattle.std.specs.Prelude.{◌≡◌, ◌⊎◌, ℕ, List, map, Option, Some}
use Rattle.std.specs.declared.sync.ledger.Ledger.{Ghosts as LedgerGhosts}
use Rattle.api_core.specs.declared.call.Call.TheVariants.{Delete}
use Rattle.hall_core.specs.declared.released.Released.{Released}
use Rattle.receipts.specs.declared.locked.Locked.{Locked}
use Rattle.receipts.specs.declared.mark.Trace.{Ghosts as TraceGhosts}
use Rattle.receipts.specs.declared.opening.OpeningTrace.{Ghosts as OpeningGhosts}
use Rattle.receipts.specs.declared.witness.Witnessed.{Witnessed}
use Rattle.receipts.specs.Locked.{hall_in}
use Rattle.long_poll.specs.Port.{IsDoneFor}
use Rattle.long_poll.specs.Waiting.{IsTaken}
use Rattle.admin_replies.specs.declared.admin_reply.AdminReply.{AdminReply}
use Rattle.admin_replies.specs.declared.verdict.ToldLine.{ToldLine}
use Rattle.admin_replies.specs.declared.verdict.Verdict.{Verdict}
use Rattle.admin_replies.specs.Collecting.{verdict_of, TellsLines}

-- it is the reply that the hall under the lock gave for the slot with which a DELETE of this event was done there before
abbrev pub IsReplyTo : {L T O : Type 0} {l : LedgerGhosts L} {g : TraceGhosts T O} {o : OpeningGhosts O}
    → Option (List ℕ) → Witnessed Released L T O l g o → Type 0
IsReplyTo {L = L} {T = T} {O = O} {l = l} {g = g} {o = o} id told =
    (before : Locked L T O l g o) × (after : Locked L T O l g o) × (slot : ℕ)
    × IsDoneFor (Delete id) (hall_in before.hall) (hall_in after.hall) slot × IsTaken slot told

-- the future of this slot gives such a reply, from the office where this was seen
abbrev pub GivesReplyTo : {A L T O : Type 0} {l : LedgerGhosts L} {g : TraceGhosts T O} {o : OpeningGhosts O}
    → Option (List ℕ) → Witnessed A L T O l g o → ℕ → Type 0
GivesReplyTo {L = L} {T = T} {O = O} {l = l} {g = g} {o = o} id seen slot =
    (told : Witnessed Released L T O l g o) → IsTaken slot told → IsReplyTo id told

-- it is what such a reply tells to have become of the record
abbrev pub IsVerdictOn : {L T O : Type 0} {l : LedgerGhosts L} {g : TraceGhosts T O} {o : OpeningGhosts O}
    → Option (List ℕ) → Witnessed Verdict L T O l g o → Type 0
IsVerdictOn {L = L} {T = T} {O = O} {l = l} {g = g} {o = o} id became =
    (told : Witnessed Released L T O l g o) × IsReplyTo id told × (verdict_of told.answer.reply.status ≡ Some became.answer)

-- Just what became of lines with these ids is told, of each in their order; or that the broker was not available. Of an E it is
-- known which id its line has, and what is told of it.
abbrev pub TellsIds : {E : Type 0} → (E → Option (List ℕ)) → (E → Option ToldLine) → List (Option (List ℕ)) → AdminReply → Type 0
TellsIds {E = E} id line ids reply =
    (reply.status ≡ 503)
    ⊎ ((told : List E) × (lines : List ToldLine) × (map id told ≡ ids) × (map Some lines ≡ map line told) × TellsLines lines reply)

-- the same of these lines, as they become
abbrev pub TellsOfLines : {E : Type 0} → (E → Option (List ℕ)) → (E → Option ToldLine) → List E → AdminReply → Type 0
TellsOfLines id line entries reply = TellsIds id line (map id entries) reply
