-- A reply that tells of a view does so as it is handed on.
use Rattle.std.proofs.Common.{◌≡◌, ℕ, Bool, sym, Option, Result, Ok, Err, IfOk, subst}
use Rattle.std.specs.Result.{result_ok}
use Rattle.admin_replies.specs.declared.admin_reply.AdminReply.{AdminReply}
use Rattle.admin_replies.specs.declared.kept.Kept.{Kept}
use Rattle.admin_replies.specs.declared.measuring.Measures.{Measures}
use Rattle.admin_replies.specs.declared.telling.Baseline.{Baseline}
use Rattle.admin_replies.specs.Telling.{TellsOf, TellsAtOnce}
use Rattle.admin_replies.specs.declared.admin_request.AdminRequest.{AdminRequest}
use Rattle.receipts.specs.declared.view.View.{View}
use Rattle.admin_port.specs.Replying.{TellsOfView, TellsOfNoView}

pub told_now : {E : Type 0} (baseline : Baseline) (request : AdminRequest) (view : View) (measures : Measures) (kept : Kept) (now : ℕ)
    (told : Result AdminReply E) (reply : Option AdminReply) → reply ≡ result_ok told
    → IfOk told (λ (r : AdminReply). TellsOf baseline view measures kept now request r) → TellsOfView baseline request view reply
told_now baseline request view measures kept now (Ok r) reply is tells =
    subst (λ (o : Option AdminReply). TellsOfView baseline request view o) (sym is) (measures, (kept, (now, tells)))
told_now baseline request view measures kept now (Err w) reply is tells =
    subst (λ (o : Option AdminReply). TellsOfView baseline request view o) (sym is) tt

-- so does one that tells what needs no view
pub told_prompt : {E : Type 0} (baseline : Baseline) (request : AdminRequest) (measures : Measures) (kept : Kept) (is_stopping : Bool)
    (told : Result AdminReply E) (reply : Option AdminReply) → reply ≡ result_ok told
    → IfOk told (λ (r : AdminReply). TellsAtOnce baseline measures kept is_stopping request r) → TellsOfNoView baseline request reply
told_prompt baseline request measures kept is_stopping (Ok r) reply is tells =
    subst (λ (o : Option AdminReply). TellsOfNoView baseline request o) (sym is) (measures, (kept, (is_stopping, tells)))
told_prompt baseline request measures kept is_stopping (Err w) reply is tells =
    subst (λ (o : Option AdminReply). TellsOfNoView baseline request o) (sym is) tt
