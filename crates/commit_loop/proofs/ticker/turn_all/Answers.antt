use Rattle.std.proofs.Common.{None}
use Rattle.commit_loop.proofs.TickerTurns.{one_more}
use Rattle.commit_loop.proofs.ticker.turn_all.Goals as goal

pub loop-preserved : goal.loop-preserved
loop-preserved g c = one_more g.T.Ticking.leads (g.G.Gate.says c.args.gate.now) g.met.T.Ticking.goes_on _ _ _ c.loop.invariant (c.in_default.ensures.turned (λ _. None))
