use Rattle.std.proofs.Common.{◌≤◌, ℕ, refl, sym, subst, map, Ok, Err}
use Rattle.receipts.proofs.Settled.{settle_same, settled_number, follows_still, reached_still}
use Rattle.std.proofs.Math.Logic.{∥∥₁_map}
use Rattle.broker_core.specs.IssuerHalf.{half_view}
use Rattle.hall_core.specs.Hall.{view_of}
use Rattle.receipts.proofs.Running.{runs_kept}
use Rattle.receipts.proofs.UnderLock.{told_of}
use Rattle.receipts.proofs.locked.Locked.settle.Goals as goal

pub invariant_of-self : goal.invariant_of-self
invariant_of-self g c =
    let locked = c.args.self.now in
    let same = settle_same _ _ _ c.settle.result c.settle.ensures.ok c.settle.ensures.err in
    record {
      numbered = locked.numbered;
      reached = reached_still _ _ _ same.1 locked.reached;
      followed = follows_still _ _ (g.T.Opening.OpeningTrace.table locked.opening) _ _ (map g.T.Trace.mark locked.marks.all.items) same.0 same.1 locked.followed;
      runs = ∥∥₁_map locked.runs (runs_kept (view_of half_view locked.hall) (view_of half_view c.settle.new.self) _ same.0 c.settle.ensures.stands);
    }

pub returns-in-Ok : goal.returns-in-Ok
returns-in-Ok g c =
    let number = settled_number _ _ _ _ c.in-Ok.ensures.ok in
    record {
      told = (subst (λ (n : ℕ). c.args.desk.now.told ≤ n) (sym number) c.requires, c.number-desk.ensures);
      steps = c.count.ensures;
      from_is = refl;
      to_is = refl;
      number = refl;
      own = refl;
      answered = refl;
      err = tt;
      refused = tt;
      settles = c.in-Ok.ensures.ok;
      tells = told_of _ _ c.args.outcome (Ok c.in-Ok.durable) c.in-Ok.ensures.ok tt;
      stands = c.settle.ensures.stands;
      parts = c.settle.ensures.parts;
      all = refl;
      counted = refl;
      opening = refl;
      lives = refl;
    }

pub returns-in-Err : goal.returns-in-Err
returns-in-Err g c =
    record {
      told = tt;
      steps = c.count.ensures;
      from_is = refl;
      to_is = refl;
      number = refl;
      own = refl;
      answered = refl;
      err = refl;
      refused = c.in-Err.ensures.err;
      settles = tt;
      tells = told_of _ _ c.args.outcome (Err c.in-Err.why) tt c.in-Err.ensures.err;
      stands = c.settle.ensures.stands;
      parts = c.settle.ensures.parts;
      all = refl;
      counted = refl;
      opening = refl;
      lives = refl;
    }
