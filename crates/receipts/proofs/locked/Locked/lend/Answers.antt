use Rattle.std.proofs.Common.{refl, map, inr}
use Rattle.std.proofs.Math.Logic.{∥∥₁_map}
use Rattle.broker_core.specs.IssuerHalf.{half_view}
use Rattle.hall_core.specs.Hall.{view_of}
use Rattle.receipts.proofs.Running.{runs_same}
use Rattle.receipts.proofs.Settled.{follows_still, reached_still}
use Rattle.receipts.proofs.UnderLock.{lent_no_fault}
use Rattle.receipts.proofs.locked.Locked.lend.Goals as goal

pub invariant_of-self : goal.invariant_of-self
invariant_of-self g c =
    let locked = c.args.self.now in
    let same = c.lend.ensures.same in
    record {
      numbered = locked.numbered;
      reached = reached_still _ _ _ same.issuer.table locked.reached;
      followed = follows_still _ _ (g.T.Opening.OpeningTrace.table locked.opening) _ _ (map g.T.Trace.mark locked.marks.all.items) same.issuer.settings same.issuer.table locked.followed;
      runs = ∥∥₁_map locked.runs (runs_same (view_of half_view locked.hall) (view_of half_view c.lend.new.self) _ same);
    }

pub returns-in-Err : goal.returns-in-Err
returns-in-Err g c =
    record {
      told = tt;
      steps = c.count.ensures;
      from_is = refl;
      to_is = refl;
      number = refl;
      own = refl;
      answered = refl;
      err = refl;
      refused = inr (c.in_ok-check.ensures.ok, c.in-Err.ensures.reason);
      no_fault = lent_no_fault _ c.in-Err.why c.in-Err.ensures.reason;
      lends = tt;
      kept = c.in-Err.ensures.kept;
      same = record { hall = c.lend.ensures.same; marks = refl; slots = refl };
      opening = refl;
      lives = refl;
    }
