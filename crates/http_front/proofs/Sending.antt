-- A 202 that a port sends with an empty body, or with that of InvokeAsync, is what a hall told that accepted an event, and no refusal.
use Rattle.std.proofs.Common.{◌≡◌, ℕ, List, sym, ◌∙◌, inl, inr, arith, Result}
use Rattle.std.specs.Prelude.{IfOk, IfErr}
use Rattle.std.specs.declared.sync.ledger.Ledger.{Ghosts as LedgerGhosts}
use Rattle.http.specs.declared.request.Parts.{Parts}
use Rattle.http.specs.declared.request.Request.{Request}
use Rattle.http.specs.Request.{head_of}
use Rattle.hyper.specs.declared.body.incoming.Incoming.{Incoming}
use Rattle.http_port.specs.declared.reading.BodyError.{BodyError}
use Rattle.http_port.specs.Answering.{Message}
use Rattle.http_port.specs.Serving.{SendsReply, SendsRefusal}
use Rattle.http_port.specs.laws.Sent.{sent_status, sent_body}
use Rattle.api_core.specs.declared.call.Call.{Call}
use Rattle.receipts.specs.declared.mark.Trace.{Ghosts as TraceGhosts}
use Rattle.receipts.specs.declared.opening.OpeningTrace.{Ghosts as OpeningGhosts}
use Rattle.receipts.specs.Locked.{hall_in}
use Rattle.long_poll.specs.Port.{IsDoneFor}
use Rattle.long_poll.specs.Waiting.{IsTaken}
use Rattle.http_front.specs.declared.port_application.PortApplication.{PortApplication}
use Rattle.http_front.specs.declared.port_application.Replying.{Replying}
use Rattle.http_front.specs.declared.replying.Telling.{Telling}
use Rattle.http_front.specs.Accepting.{SaysAccepted, IsAccepted, hall_met}
use Rattle.http_front.specs.Calls.{IsCallFor, RefusesRequest}
use Rattle.http_front.specs.Telling.{TellsReply}
use Rattle.http_front.proofs.Accepted.{answered_by}
use Rattle.http_front.proofs.Refused.{status_told, body_told, refuses_above}

-- how what a reply gives is told, what a port answers a request, and what a reply gives: the words of their impls
abbrev pub Tells : {L T O : Type 0} {l : LedgerGhosts L} {g : TraceGhosts T O} {o : OpeningGhosts O} → Telling L T O l g o → Message → Type 0
Tells telling told = TellsReply telling.id telling.released.answer.reply told

module _ {R L T O : Type 0} {l : LedgerGhosts L} {g : TraceGhosts T O} {o : OpeningGhosts O} where
  abbrev pub AnswersAt : PortApplication R L T O l g o → Parts → Result (List ℕ) BodyError → Result (Replying R L T O l g o) Message → Type 0
  AnswersAt application head read answered =
      IfOk answered (λ replying. (call : Call)
      × IsCallFor application.front.value.dialect application.front.value.settings application.number head read call
      × IsDoneFor call (hall_in replying.waiting.seen.before.value.hall) (hall_in replying.waiting.seen.after.value.hall) replying.waiting.slot)
      × IfErr answered (RefusesRequest application.front.value.dialect application.front.value.settings application.number head read)

  abbrev pub Gives : Replying R L T O l g o → Telling L T O l g o → Type 0
  Gives replying telling = IsTaken replying.waiting.slot telling.released × (telling.id ≡ replying.id)

  module _ {I : Type 0} (application : PortApplication R L T O l g o) (request : Request (Incoming I)) (sent : Message) where
    pub reply_accepts : (it : SendsReply AnswersAt Gives Tells application request sent) → SaysAccepted sent
        → IsAccepted application.front.value.dialect application.front.value.settings application.number (head_of request) it.answered.read
        it.reply.waiting.slot it.reply.waiting.seen it.telling.released
    reply_accepts it says =
        let asked = it.answered.answer.0 in
        let reply = it.telling.released.answer.reply in
        let status : reply.status ≡ 202 = sym (status_told it.telling.id reply it.told it.told_is) ∙ sent_status it.told sent it.is_sent ∙ says.0 in
        let same : reply.body ≡ sent.body = sym (body_told it.telling.id reply it.told it.told_is) ∙ sent_body it.told sent it.is_sent in
        record {
          call = asked.0;
          is_call = asked.1;
          done = asked.2;
          takes = it.given.0;
          runs = it.telling.released.before.value.runs;
          answered = answered_by (hall_met it.telling.released) it.reply.waiting.slot asked.0 it.telling.released.answer it.given.0.gives
              status (elim says.1 [ inl none ↦ inl (same ∙ none) | inr text ↦ inr (same ∙ text) ]);
        }

    pub no_refusal_accepts : {A : Type 0} → SendsRefusal AnswersAt application request sent → sent.status ≡ 202 → A
    no_refusal_accepts it status =
        refuses_above application.front.value.dialect application.front.value.settings application.number (head_of request) it.answered.read it.told
        it.answered.answer.1 (omega (arith, sent_status it.told sent it.is_sent, status))
