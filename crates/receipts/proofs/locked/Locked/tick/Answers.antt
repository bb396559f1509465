use Rattle.std.proofs.Common.{refl, sym, ◌≡◌, ◌++◌, map, ap, inr, ◌∙◌}
use Rattle.receipts.specs.Marks.{marks_by}
use Rattle.receipts.proofs.Histories.{histories_by}
use Rattle.receipts.proofs.Followed.{numbered_by, reached_by, follows_by, adds_answered}
use Rattle.std.proofs.Math.Logic.{∥∥₁_map}
use Rattle.receipts.proofs.Running.{runs_by, runs_same, same_stands}
use Rattle.receipts.proofs.Refused.{refused_tick}
use Rattle.receipts.proofs.UnderLock.{does_at, does_still, issues_still, issued_at, answers_number}
use Rattle.async_core.specs.State.{State}
use Rattle.broker_core.specs.declared.issue_half.IssueHalf.{IssueHalf}
use Rattle.receipts.proofs.Issued.{marks_from, told_by_move, lent_from, durable_from, lives_from}
use Rattle.receipts.proofs.Settled.{follows_still, reached_still}
use Rattle.receipts.specs.Locked.{either_number}
use Rattle.broker_core.specs.IssuerHalf.{half_view}
use Rattle.hall_core.specs.Hall.{view_of}
use Rattle.receipts.proofs.locked.Locked.tick.Goals as goal

pub invariant_of-self-in-Ok : goal.invariant_of-self-in-Ok
invariant_of-self-in-Ok g c =
    let e = issues_still c.args.self.now.hall.issuer c.tick.new.self.issuer _ c.in-Ok.issued c.hand_out.ensures.issuer c.in-Ok.ensures.issues in
    let added : map g.T.Trace.mark c.note.new.marks.all.items ≡ map g.T.Trace.mark c.args.self.now.marks.all.items ++ marks_by c.args.desk.now.number c.in-Ok.issued =
    marks_from g.T.Trace.mark _ _ _ _ _ c.in-Ok.issued c.note.ensures.all c.reserve.ensures.all c.reserve.ensures.desk.0 in
    let reached = c.args.self.now.reached in
    record {
      numbered = numbered_by _ _ _ _ e.command _ added e.answered _ reached c.args.self.now.numbered;
      reached = reached_by _ _ _ _ e.command _ added e.answered _ _ reached e.continues.issued;
      followed = follows_by _ _ _ _ e.command _ added e.answered _ _ _ _ _ e.continues.settings e.continues.table c.args.self.now.followed;
      runs = ∥∥₁_map c.args.self.now.runs
          (runs_by (view_of half_view c.args.self.now.hall) (view_of half_view c.hand_out.new.hall) _ _ e.continues.settings c.requires
          c.in-Ok.ensures.passes.by_past (λ past stands. same_stands _ _ c.hand_out.ensures.same _ (c.in-Ok.ensures.ok past stands).1));
    }

pub invariant_of-self-in-Err-1 : goal.invariant_of-self-in-Err-1
invariant_of-self-in-Err-1 g c =
    let locked = c.args.self.now in
    let same = c.in-Err.ensures.err in
    record {
      numbered = rw c.reserve.ensures.all locked.numbered;
      reached = rw c.reserve.ensures.all (reached_still _ _ _ same.issuer.table locked.reached);
      followed = rw c.reserve.ensures.all (follows_still _ _ (g.T.Opening.OpeningTrace.table locked.opening) _ _ (map g.T.Trace.mark locked.marks.all.items) same.issuer.settings same.issuer.table locked.followed);
      runs = ∥∥₁_map locked.runs (runs_same (view_of half_view locked.hall) (view_of half_view c.tick.new.self) _ same);
    }

pub returns-in-Ok : goal.returns-in-Ok
returns-in-Ok g c =
    let e = c.in-Ok.ensures.issues in
    let own : map g.T.Trace.mark c.told_by-told.new.desk.own.items ≡ map g.T.Trace.mark c.args.desk.now.own.items ++ marks_by c.args.desk.now.number c.in-Ok.issued =
    marks_from g.T.Trace.mark _ _ _ _ _ c.in-Ok.issued (ap (map g.T.Trace.mark) c.told_by-told.ensures.rest.1 ∙ c.note.ensures.own) c.reserve.ensures.own c.reserve.ensures.desk.0 in
    let all : map g.T.Trace.mark c.note.new.marks.all.items ≡ map g.T.Trace.mark c.args.self.now.marks.all.items ++ marks_by c.args.desk.now.number c.in-Ok.issued =
    marks_from g.T.Trace.mark _ _ _ _ _ c.in-Ok.issued c.note.ensures.all c.reserve.ensures.all c.reserve.ensures.desk.0 in
    record {
      marks = adds_answered _ _ _ c.in-Ok.issued own _ c.told_by-told.ensures.number;
      told = told_by_move c.args.desk.now.told _ _ e.command c.in-Ok.issued _ c.in_ok-check.ensures.ok e.answered c.told_by-told.ensures.number
          (c.told_by-told.ensures.told ∙ ap (λ n. either_number n c.in-Ok.issued) (c.note.ensures.desk.1 ∙ c.reserve.ensures.desk.1));
      steps = c.told_by-told.ensures.rest.2 ∙ c.note.ensures.desk.2 ∙ c.reserve.ensures.desk.2 ∙ c.count_move.ensures;
      from_is = refl;
      to_is = refl;
      number = c.told_by-told.ensures.rest.0 ∙ c.note.ensures.desk.0 ∙ c.reserve.ensures.desk.0;
      err = tt;
      refused = tt;
      done = does_at _ _ _ c.in-Ok.issued (does_still _ _ _ _ c.in-Ok.issued c.hand_out.ensures.same c.in-Ok.ensures.ok) _ _ _ own;
      answer = answers_number _ _ _ c.in-Ok.issued c.in-Ok.ensures.ok _ c.told_by-told.ensures.number;
      both = (marks_by c.args.desk.now.number c.in-Ok.issued, own, all);
      histories = histories_by _ _ _ _ _ c.in-Ok.issued all own;
      unmarked = tt;
      counted = refl;
      kept = durable_from (view_of half_view c.args.self.now.hall) (view_of half_view c.tick.new.self) (view_of half_view c.hand_out.new.hall) c.hand_out.ensures.same c.in-Ok.ensures.kept;
      no_call = lent_from c.args.self.now.hall.issuer c.tick.new.self.issuer c.hand_out.new.hall.issuer c.hand_out.ensures.issuer c.tick.ensures.no_call;
      opening = refl;
      reason = tt;
      same = tt;
      issued = issued_at _ _ _ c.in-Ok.issued c.in-Ok.ensures.ok _ (c.told_by-told.ensures.issued ∙ c.note.ensures.issued);
      kept_issued = tt;
      answered = λ past stands. c.hand_out.ensures.slots ∙ c.in-Ok.ensures.answered past stands;
      kept_answered = tt;
      lives = lives_from _ _ c.in-Ok.issued _ _ _ c.count_end.ensures
          (ap (λ (i : IssueHalf). (half_view i).table) c.hand_out.ensures.issuer ∙ sym (ap (λ (s : State). s.table) c.table.ensures))
          (c.told_by-told.ensures.issued ∙ c.note.ensures.issued);
      kept_lives = tt;
    }

pub returns-in-Err : goal.returns-in-Err
returns-in-Err g c =
    record {
      marks = tt;
      told = tt;
      steps = c.reserve.ensures.desk.2 ∙ c.count_move.ensures;
      from_is = refl;
      to_is = refl;
      number = c.reserve.ensures.desk.0;
      err = (c.reserve.ensures.own, c.reserve.ensures.desk.1);
      refused = refused_tick _ (view_of half_view c.args.self.now.hall) c.args.now c.in-Err.why c.in-Err.ensures.reason;
      done = tt;
      answer = tt;
      both = tt;
      histories = tt;
      unmarked = c.reserve.ensures.all;
      counted = refl;
      kept = tt;
      no_call = c.tick.ensures.no_call;
      opening = refl;
      reason = inr (c.in_ok-check.ensures.ok, inr (record { first = c.in-Err.ensures.refused; reason = c.in-Err.ensures.reason }));
      same = record { hall = c.in-Err.ensures.err; marks = ap (map g.T.Trace.mark) c.reserve.ensures.all; slots = refl };
      issued = tt;
      kept_issued = c.reserve.ensures.issued;
      answered = tt;
      kept_answered = rw c.reserve.ensures.answered;
      lives = tt;
      kept_lives = refl;
    }
