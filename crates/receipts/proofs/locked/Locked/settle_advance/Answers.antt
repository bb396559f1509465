use Rattle.std.proofs.Common.{rules, refl, map, Ok, Err}
use Rattle.std.proofs.Math.Logic.{∥∥₁_map}
use Rattle.broker_core.specs.IssuerHalf.{half_view}
use Rattle.hall_core.specs.Hall.{view_of}
use Rattle.receipts.proofs.Advanced.{advance_same, told_of_advance}
use Rattle.receipts.proofs.Running.{runs_kept}
use Rattle.receipts.proofs.Settled.{follows_still, reached_still}
use Rattle.receipts.proofs.locked.Locked.settle_advance.Goals as goal

pub invariant_of-self : goal.invariant_of-self
invariant_of-self g c =
    let locked = c.args.self.now in
    let same = advance_same locked.hall.issuer c.settle_in.new.hall.issuer c.args.outcome c.settle_in.result c.settle_in.ensures.settles in
    record {
      numbered = locked.numbered;
      reached = reached_still _ _ _ same.1 locked.reached;
      followed = follows_still _ _ (g.T.Opening.OpeningTrace.table locked.opening) _ _ (map g.T.Trace.mark locked.marks.all.items) same.0 same.1 locked.followed;
      runs = ∥∥₁_map locked.runs (runs_kept (view_of half_view locked.hall) (view_of half_view c.settle_in.new.hall) _ same.0 c.settle_in.ensures.stands);
    }

pub returns-in-Ok : goal.returns-in-Ok
returns-in-Ok g c =
    record {
      told = search rules;
      steps = c.count.ensures;
      from_is = refl;
      to_is = refl;
      number = refl;
      own = refl;
      answered = refl;
      err = tt;
      settles = c.in-Ok.ensures.settles;
      tells = told_of_advance c.args.self.now.hall.issuer c.settle_in.new.hall.issuer c.args.outcome (Ok c.in-Ok.durable) c.in-Ok.ensures.settles;
      stands = c.settle_in.ensures.stands;
      parts = c.settle_in.ensures.parts;
      all = refl;
      counted = refl;
      opening = refl;
      lives = refl;
    }

pub returns-in-Err : goal.returns-in-Err
returns-in-Err g c =
    record {
      told = tt;
      steps = c.count.ensures;
      from_is = refl;
      to_is = refl;
      number = refl;
      own = refl;
      answered = refl;
      err = refl;
      settles = c.in-Err.ensures.settles;
      tells = told_of_advance c.args.self.now.hall.issuer c.settle_in.new.hall.issuer c.args.outcome (Err c.in-Err.why) c.in-Err.ensures.settles;
      stands = c.settle_in.ensures.stands;
      parts = c.settle_in.ensures.parts;
      all = refl;
      counted = refl;
      opening = refl;
      lives = refl;
    }
