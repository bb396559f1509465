-- What is told of a record that is tried again, and the id that a reply tells.
use Rattle.std.proofs.Common.{◌≡◌, ◌≢◌, ℕ, ◌==◌, List, Bool, true, false, Option, Some, None, Result, Ok, Err, IfSome, refl, subst, sym, inl, inr, slice_get, codes, bytes_eq, if◌then◌else◌}
use Rattle.std.specs.declared.sync.ledger.Ledger.{Ghosts as LedgerGhosts}
use Rattle.receipts.specs.declared.mark.Trace.{Ghosts as TraceGhosts}
use Rattle.receipts.specs.declared.opening.OpeningTrace.{Ghosts as OpeningGhosts}
use Rattle.api_core.specs.declared.reply.Reply.{Reply}
use Rattle.admin_replies.specs.declared.admin_reply.AdminReply.{AdminReply}
use Rattle.admin_port.specs.Asking.{accepted_by, id_in}
use Rattle.admin_port.specs.Retrying.{Leads}
use Rattle.admin_port.specs.declared.step.Turn.{Turn}
use Rattle.admin_port.specs.declared.step.Turn.TheVariants.{Waits, Tells}
use Rattle.admin_port.proofs.Listed.{of_some}

-- another header tells no id
other_by : (b : Bool) (header : Option (List ℕ × List ℕ)) → id_in header ≡ None → None ≡ (if b then id_in header else None)
other_by true header none = sym none
other_by false header none = refl

pub no_other : (reply : Reply) (name value : List ℕ) → slice_get reply.headers 0 ≡ Some (name, value)
    → bytes_eq name (codes "X-Amzn-RequestId") ≡ false → None ≡ accepted_by reply
no_other reply name value is other = other_by (reply.status == 202) (slice_get reply.headers 0) (rw (is, other) refl)

-- what leads to this leads to what that is
pub leads_more : {R L T O : Type 0} {l : LedgerGhosts L} {g : TraceGhosts T O} {o : OpeningGhosts O} (id : List ℕ) (P Q : AdminReply → Type 0)
    → ((reply : AdminReply) → P reply → Q reply) → (turn : Turn R L T O l g o) → Leads id P turn → Leads id Q turn
leads_more id P Q more (Waits step) leads = λ reply tells. more reply (leads reply tells)
leads_more id P Q more (Tells response) leads = of_some P Q more response.reply leads
