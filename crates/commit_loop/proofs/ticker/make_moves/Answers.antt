use Rattle.std.proofs.Common.{◌+◌, List, [], ◌∷◌, subst, sym, true, arith}
use Rattle.std.proofs.Math.ListN.{replicate}
use Rattle.std.proofs.lemmas.Bool.{lt-ltb}
use Rattle.std.proofs.lemmas.List.{replicate_more}
use Rattle.commit_loop.specs.Ticker.{Step, ticked}
use Rattle.commit_loop.proofs.ticker.make_moves.Goals as goal

pub loop-preserved : goal.loop-preserved
loop-preserved g c =
    let before = c.loop.invariant in
    let made = rw (c.if-not-moved.false) at c.tick-moved.ensures.steps in
    let P : List Step → Type 0 = λ steps. g.T.Ticking.leads c.args.ticker.now steps c.tick-moved.new.self in (
      before.0 + 1,
      sym (lt-ltb 0 (before.0 + 1) (omega arith)),
      subst P (replicate_more before.0 (ticked true)) (g.met.T.Ticking.goes_on _ _ _ (replicate before.0 (ticked true)) (ticked true ∷ []) before.2 made),
    )
