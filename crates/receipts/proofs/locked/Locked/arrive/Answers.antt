use Rattle.std.proofs.Common.{refl, sym, ◌≡◌, ◌++◌, map, ap, ◌∙◌}
use Rattle.receipts.specs.Marks.{marks_by}
use Rattle.receipts.specs.UnderLock.{Asking}
use Rattle.receipts.proofs.Histories.{histories_by}
use Rattle.receipts.proofs.Followed.{numbered_by, reached_by, follows_by, adds_by, adds_asked}
use Rattle.std.proofs.Math.Logic.{∥∥₁_map}
use Rattle.std.proofs.lemmas.Result.{err_from_is_err_and}
use Rattle.receipts.proofs.Running.{runs_by, runs_same, same_stands}
use Rattle.receipts.proofs.Refused.{refused_arrival}
use Rattle.receipts.proofs.UnderLock.{does_at, does_still, issues_still, issued_at, same_hall, not_made_by_memory, not_made_by_hall}
use Rattle.async_core.specs.State.{State}
use Rattle.broker_core.specs.declared.issue_half.IssueHalf.{IssueHalf}
use Rattle.receipts.proofs.Issued.{marks_from, told_by_request, lent_from, durable_from, lives_from}
use Rattle.receipts.proofs.Settled.{follows_still, reached_still}
use Rattle.broker_core.specs.Issuer.{issued_in}
use Rattle.broker_core.specs.IssuerHalf.{half_view}
use Rattle.hall_core.specs.Hall.{view_of, request}
use Rattle.receipts.proofs.locked.Locked.arrive.Goals as goal

pub arrive-requires-clause-free : goal.arrive-requires-clause-free
arrive-requires-clause-free g c = c.in_ok-slot.ensures.can.free

pub arrive-requires-clause-environment : goal.arrive-requires-clause-environment
arrive-requires-clause-environment g c = c.in_ok-slot.ensures.can.environment

pub arrive-requires-clause-fit : goal.arrive-requires-clause-fit
arrive-requires-clause-fit g c = c.in_ok-slot.ensures.can.fit

pub invariant_of-self-in-Ok : goal.invariant_of-self-in-Ok
invariant_of-self-in-Ok g c =
    let e = issues_still c.args.self.now.hall.issuer c.arrive.new.self.issuer _ c.in-Ok.issued c.hand_out.ensures.issuer c.in-Ok.ensures.issues in
    let added : map g.T.Trace.mark c.note.new.marks.all.items ≡ map g.T.Trace.mark c.args.self.now.marks.all.items ++ marks_by c.args.desk.now.number c.in-Ok.issued =
    marks_from g.T.Trace.mark _ _ _ _ _ c.in-Ok.issued c.note.ensures.all c.reserve.ensures.all c.reserve.ensures.desk.0 in
    let reached = c.args.self.now.reached in
    record {
      numbered = numbered_by _ _ _ _ e.command _ added e.answered _ reached c.args.self.now.numbered;
      reached = reached_by _ _ _ _ e.command _ added e.answered _ _ reached e.continues.issued;
      followed = follows_by _ _ _ _ e.command _ added e.answered _ _ _ _ _ e.continues.settings e.continues.table c.args.self.now.followed;
      runs = ∥∥₁_map c.args.self.now.runs
          (runs_by (view_of half_view c.args.self.now.hall) (view_of half_view c.hand_out.new.hall) _ _ e.continues.settings c.in_ok-slot.ensures.can.fit
          c.in-Ok.ensures.passes.by_past (λ past stands. same_stands _ _ c.hand_out.ensures.same _ (c.in-Ok.ensures.ok past stands).1));
    }

pub invariant_of-self-in-Err-1 : goal.invariant_of-self-in-Err-1
invariant_of-self-in-Err-1 g c =
    let locked = c.args.self.now in
    let same = c.in-Err.ensures.err in
    record {
      numbered = rw c.reserve.ensures.all locked.numbered;
      reached = rw c.reserve.ensures.all (reached_still _ _ _ same.issuer.table locked.reached);
      followed = rw c.reserve.ensures.all (follows_still _ _ (g.T.Opening.OpeningTrace.table locked.opening) _ _ (map g.T.Trace.mark locked.marks.all.items) same.issuer.settings same.issuer.table locked.followed);
      runs = ∥∥₁_map locked.runs (runs_same (view_of half_view locked.hall) (view_of half_view c.arrive.new.self) _ same);
    }

pub returns-in-Ok : goal.returns-in-Ok
returns-in-Ok g c =
    let e = c.in-Ok.ensures.issues in
    let own : map g.T.Trace.mark c.note.new.desk.own.items ≡ map g.T.Trace.mark c.args.desk.now.own.items ++ marks_by c.args.desk.now.number c.in-Ok.issued =
    marks_from g.T.Trace.mark _ _ _ _ _ c.in-Ok.issued c.note.ensures.own c.reserve.ensures.own c.reserve.ensures.desk.0 in
    let all : map g.T.Trace.mark c.note.new.marks.all.items ≡ map g.T.Trace.mark c.args.self.now.marks.all.items ++ marks_by c.args.desk.now.number c.in-Ok.issued =
    marks_from g.T.Trace.mark _ _ _ _ _ c.in-Ok.issued c.note.ensures.all c.reserve.ensures.all c.reserve.ensures.desk.0 in
    record {
      marks = adds_by _ _ _ _ e.command _ own e.answered _ (c.ticket-ticket.ensures ∙ e.continues.issued);
      told = told_by_request c.args.desk.now.told _ _ _ e.command c.in_ok-slot.ensures.told (c.ticket-ticket.ensures ∙ e.continues.issued) c.number-desk.ensures;
      slot = c.in_ok-slot.ensures.slot;
      steps = c.note.ensures.desk.2 ∙ c.reserve.ensures.desk.2 ∙ c.count.ensures;
      from_is = refl;
      to_is = refl;
      number = c.note.ensures.desk.0 ∙ c.reserve.ensures.desk.0;
      err = tt;
      asked = adds_asked _ _ _ _ _ c.in-Ok.issued own c.in-Ok.ensures.asked;
      refused = tt;
      done = does_at _ _ _ c.in-Ok.issued (does_still _ _ _ _ c.in-Ok.issued c.hand_out.ensures.same c.in-Ok.ensures.ok) _ _ _ own;
      both = (marks_by c.args.desk.now.number c.in-Ok.issued, own, all);
      histories = histories_by _ _ _ _ _ c.in-Ok.issued all own;
      unmarked = tt;
      counts = (c.in_ok-slot.ensures.next, refl);
      ticket = c.ticket-ticket.ensures ∙ ap (λ (i : IssueHalf). issued_in (half_view i)) (sym c.hand_out.ensures.issuer);
      kept = durable_from (view_of half_view c.args.self.now.hall) (view_of half_view c.arrive.new.self) (view_of half_view c.hand_out.new.hall) c.hand_out.ensures.same c.in-Ok.ensures.kept;
      no_call = lent_from c.args.self.now.hall.issuer c.arrive.new.self.issuer c.hand_out.new.hall.issuer c.hand_out.ensures.issuer c.arrive.ensures.no_call;
      opening = refl;
      reason = tt;
      same = tt;
      issued = issued_at _ _ _ c.in-Ok.issued c.in-Ok.ensures.ok _ c.note.ensures.issued;
      kept_issued = tt;
      answered = λ past stands. c.hand_out.ensures.slots ∙ c.in-Ok.ensures.answered past stands;
      kept_answered = tt;
      lives = lives_from _ _ c.in-Ok.issued _ _ _ c.count_end.ensures
          (ap (λ (i : IssueHalf). (half_view i).table) c.hand_out.ensures.issuer ∙ sym (ap (λ (s : State). s.table) c.table.ensures))
          c.note.ensures.issued;
      kept_lives = tt;
    }

-- ## Refusals

pub returns-in_err-slot : goal.returns-in_err-slot
returns-in_err-slot g c =
    let refusal = err_from_is_err_and c.from_residual.result c.from_residual.ensures.1 in
    rw (refusal.1, refusal.2) (record {
      marks = tt;
      told = tt;
      slot = tt;
      steps = c.count.ensures;
      from_is = refl;
      to_is = refl;
      number = refl;
      err = (refl, refl);
      asked = tt;
      refused = c.in_err-slot.ensures.refused;
      done = tt;
      both = tt;
      histories = tt;
      unmarked = refl;
      counts = tt;
      ticket = tt;
      kept = tt;
      no_call = refl;
      opening = refl;
      reason = c.in_err-slot.ensures.reason;
      same = record { hall = same_hall (view_of half_view c.args.self.now.hall); marks = refl; slots = refl };
      issued = tt;
      kept_issued = refl;
      answered = tt;
      kept_answered = refl;
      lives = tt;
      kept_lives = refl;
    })

pub returns-in_err-reserve : goal.returns-in_err-reserve
returns-in_err-reserve g c =
    let asking : Asking = record { told = c.args.desk.now.told; desk = c.args.desk.now.number; call = c.args.call; now = c.args.now; words = c.args.words } in
    let memory = err_from_is_err_and c.from_residual-in_err-reserve.result c.from_residual-in_err-reserve.ensures.1 in
    rw (memory.1, memory.2) (record {
      marks = tt;
      told = tt;
      slot = tt;
      steps = c.reserve.ensures.desk.2 ∙ c.count.ensures;
      from_is = refl;
      to_is = refl;
      number = c.reserve.ensures.desk.0;
      err = (c.reserve.ensures.own, c.reserve.ensures.desk.1);
      asked = tt;
      refused = tt;
      done = tt;
      both = tt;
      histories = tt;
      unmarked = c.reserve.ensures.all;
      counts = tt;
      ticket = tt;
      kept = tt;
      no_call = refl;
      opening = refl;
      reason = not_made_by_memory (view_of half_view c.args.self.now.hall) c.args.self.now.slots asking c.in_ok-slot.ensures.told c.in_ok-slot.ensures.room
          c.in_ok-slot.slot c.in_ok-slot.ensures.next c.in_ok-slot.ensures.can _ refl;
      same = record { hall = same_hall (view_of half_view c.args.self.now.hall); marks = ap (map g.T.Trace.mark) c.reserve.ensures.all; slots = refl };
      issued = tt;
      kept_issued = c.reserve.ensures.issued;
      answered = tt;
      kept_answered = rw c.reserve.ensures.answered;
      lives = tt;
      kept_lives = refl;
    })

pub returns-in-Err : goal.returns-in-Err
returns-in-Err g c =
    let asking : Asking = record { told = c.args.desk.now.told; desk = c.args.desk.now.number; call = c.args.call; now = c.args.now; words = c.args.words } in
    record {
      marks = tt;
      told = tt;
      slot = tt;
      steps = c.reserve.ensures.desk.2 ∙ c.count.ensures;
      from_is = refl;
      to_is = refl;
      number = c.reserve.ensures.desk.0;
      err = (c.reserve.ensures.own, c.reserve.ensures.desk.1);
      asked = tt;
      refused = refused_arrival _ (view_of half_view c.args.self.now.hall) (request c.in_ok-slot.slot c.args.call c.args.now c.args.words)
          c.in-Err.why c.in-Err.ensures.reason;
      done = tt;
      both = tt;
      histories = tt;
      unmarked = c.reserve.ensures.all;
      counts = tt;
      ticket = tt;
      kept = tt;
      no_call = c.arrive.ensures.no_call;
      opening = refl;
      reason = not_made_by_hall (view_of half_view c.args.self.now.hall) c.args.self.now.slots asking c.in_ok-slot.ensures.told c.in_ok-slot.ensures.room
          c.in_ok-slot.slot c.in_ok-slot.ensures.next c.in_ok-slot.ensures.can c.in-Err.why
          (record { first = c.in-Err.ensures.refused; reason = c.in-Err.ensures.reason });
      same = record { hall = c.in-Err.ensures.err; marks = ap (map g.T.Trace.mark) c.reserve.ensures.all; slots = refl };
      issued = tt;
      kept_issued = c.reserve.ensures.issued;
      answered = tt;
      kept_answered = rw c.reserve.ensures.answered;
      lives = tt;
      kept_lives = refl;
    }
