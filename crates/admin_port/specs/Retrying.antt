-- What becomes of a failed record that is tried again, how far it is with that, and what is told of it.
use Rattle.std.specs.Prelude.{◌≡◌, ◌⊎◌, ℕ, List, Option, Some, None, Result, Ok, Err, IfSome}
use Rattle.std.specs.declared.sync.ledger.Ledger.{Ghosts as LedgerGhosts}
use Rattle.futures.specs.Task.{IsArmed}
use Rattle.futures.specs.declared.task.context.Context.{Context}
use Rattle.api_core.specs.declared.call.Call.{Call}
use Rattle.api_core.specs.declared.call.Call.TheVariants.{Invoke, Delete}
use Rattle.api_core.specs.declared.reply.Reply.{Reply}
use Rattle.receipts.specs.declared.mark.Trace.{Ghosts as TraceGhosts}
use Rattle.receipts.specs.declared.opening.OpeningTrace.{Ghosts as OpeningGhosts}
use Rattle.receipts.specs.declared.view.Unreleased.{Unreleased}
use Rattle.long_poll.specs.declared.pending_view.DurableView.{DurableView}
use Rattle.long_poll.specs.declared.pending_view.ViewError.{ViewError}
use Rattle.long_poll.specs.PendingView.{unreleased_in, IsOf}
use Rattle.admin_replies.specs.declared.admin_reply.AdminReply.{AdminReply}
use Rattle.admin_replies.specs.declared.retry_refusal.RetryRefusal.{RetryRefusal}
use Rattle.admin_replies.specs.declared.verdict.ToldLine.TheVariants.{Of}
use Rattle.admin_replies.specs.declared.verdict.Verdict.{Verdict}
use Rattle.admin_replies.specs.Collecting.{verdict_of}
use Rattle.admin_replies.specs.Retrying.{failed_payload, status_of, status_by, TellsAgain, TellsLeft}
use Rattle.admin_port.specs.Asking.{accepted_by}
use Rattle.admin_port.specs.declared.asked.Answered.{Answered}
use Rattle.admin_port.specs.declared.step.Step.{Step}
use Rattle.admin_port.specs.declared.step.Step.TheVariants.{Looking, Accepting, Collecting, Told}
use Rattle.admin_port.specs.declared.step.Turn.{Turn}
use Rattle.admin_port.specs.declared.step.Turn.TheVariants.{Waits, Tells}

-- ## What is told

-- by the status of the hall's reply to the DELETE of the record, once its payload was accepted as the second of these events
abbrev pub TellsOfReply : (id new : List ℕ) → ℕ → AdminReply → Type 0
TellsOfReply id new status reply =
    TellsLeft new reply ⊎ ((verdict : Verdict) × (verdict_of status ≡ Some verdict) × TellsAgain new (Of id verdict) reply)

module _ {L T O : Type 0} (l : LedgerGhosts L) (g : TraceGhosts T O) (o : OpeningGhosts O) where
  -- by what the hall replied to this call; or that the record may be left
  abbrev pub TellsOfDelete : Call → (id new : List ℕ) → AdminReply → Type 0
  TellsOfDelete call id new reply =
      TellsLeft new reply ⊎ ((told : Answered L T O l g o) × (told.call.value ≡ call) × TellsOfReply id new told.told.answer.status reply)

  -- by this reply to the Invoke of its payload: that it was not accepted; or by what the hall replied to one DELETE of the record
  abbrev pub TellsOfInvoked : List ℕ → Reply → AdminReply → Type 0
  TellsOfInvoked id invoked reply =
      ((accepted_by invoked ≡ None) × (reply.status ≡ status_by invoked.status))
      ⊎ ((new : List ℕ) × (accepted_by invoked ≡ Some new) × TellsOfDelete (Delete (Some id)) id new reply)

  -- by what the hall replied to this call
  abbrev pub TellsOfInvoke : Call → List ℕ → AdminReply → Type 0
  TellsOfInvoke call id reply = (told : Answered L T O l g o) × (told.call.value ≡ call) × TellsOfInvoked id told.told.answer reply

  -- that it is not tried again, by the check that fails; or by what the hall replied to one Invoke of this payload
  abbrev pub TellsOfFound : List ℕ → Result (List ℕ) RetryRefusal → AdminReply → Type 0
  TellsOfFound id (Err why) reply = reply.status ≡ status_of why
  TellsOfFound id (Ok payload) reply = TellsOfInvoke (Invoke payload) id reply

  -- of this record, or that the broker is not available
  abbrev pub TellsOfPayload : List ℕ → Result (List ℕ) RetryRefusal → AdminReply → Type 0
  TellsOfPayload id found reply = (reply.status ≡ 503) ⊎ TellsOfFound id found reply

  -- of the row that was seen, once that is durable; or that the hall broke before
  abbrev pub TellsOfSeen : List ℕ → Result DurableView ViewError → AdminReply → Type 0
  TellsOfSeen id (Ok durable) reply = TellsOfPayload id (failed_payload id durable.view.hall.rows) reply
  TellsOfSeen id (Err why) reply = reply.status ≡ 503

  -- of what was unreleased, and of nothing else
  abbrev pub TellsOfLook : List ℕ → Option Unreleased → AdminReply → Type 0
  TellsOfLook id unreleased reply = (seen : Result DurableView ViewError) × IsOf unreleased seen × TellsOfSeen id seen reply

module _ {R L T O : Type 0} {l : LedgerGhosts L} {g : TraceGhosts T O} {o : OpeningGhosts O} where
  -- what is told in the end, as far as it is
  abbrev pub TellsOfStep : List ℕ → Step R L T O l g o → AdminReply → Type 0
  TellsOfStep id (Looking view) reply = TellsOfLook l g o id (unreleased_in view.view) reply
  TellsOfStep id (Accepting asked) reply = TellsOfInvoke l g o asked.call.value id reply
  TellsOfStep id (Collecting accepted asked) reply = TellsOfDelete l g o asked.call.value id accepted.id reply
  TellsOfStep id Told reply = reply.status ≡ 503

  -- this is told, or is told in the end
  abbrev pub Leads : List ℕ → (AdminReply → Type 0) → Turn R L T O l g o → Type 0
  Leads id holds (Waits step) = (reply : AdminReply) → TellsOfStep id step reply → holds reply
  Leads id holds (Tells response) = IfSome response.reply holds

  abbrev pub LeadsToDelete : Call → (id new : List ℕ) → Turn R L T O l g o → Type 0
  LeadsToDelete call id new turn = Leads id (TellsOfDelete l g o call id new) turn

  abbrev pub LeadsToInvoke : Call → List ℕ → Turn R L T O l g o → Type 0
  LeadsToInvoke call id turn = Leads id (TellsOfInvoke l g o call id) turn

  abbrev pub LeadsToPayload : List ℕ → Result (List ℕ) RetryRefusal → Turn R L T O l g o → Type 0
  LeadsToPayload id found turn = Leads id (TellsOfPayload l g o id found) turn

  abbrev pub LeadsToLook : List ℕ → Option Unreleased → Turn R L T O l g o → Type 0
  LeadsToLook id unreleased turn = Leads id (TellsOfLook l g o id unreleased) turn

  abbrev pub LeadsToStep : List ℕ → Step R L T O l g o → Turn R L T O l g o → Type 0
  LeadsToStep id step turn = Leads id (TellsOfStep id step) turn

  -- where it waits, this poll has registered
  abbrev pub IsArmedIn : Context → Turn R L T O l g o → Type 0
  IsArmedIn cx (Waits step) = IsArmed cx
  IsArmedIn cx (Tells response) = Unit {0}
